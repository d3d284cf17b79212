-- The words of the command line: its options and commands, as `clap` reads them.
use Rattle.std.specs.Prelude.{◌≡◌, List, [], ◌∷◌, true, false, Some, pos, codes}
use Rattle.clap.specs.declared.builder.action.ArgAction.TheVariants.{SetTrue}
use Rattle.clap.specs.declared.builder.command.Command.{Command}
use Rattle.clap.specs.declared.builder.command.Command.TheViews.{out-Command}
use Rattle.clap.specs.declared.builder.value_parser.ValueParser.TheVariants.{Signed}
use Rattle.clap.specs.Words.{App, Rule, Shape, Text, new_rule, shape_of, with_subcommand}
use Rattle.clap.specs.Simple.{new_shape}
use Rattle.ccr_command.specs.Numbers.{MOST, MOST_PLACE, MOST_SECONDS}

-- ---- arguments
-- one that has to be there, without a name before it
abbrev pub value_rule : Text → Rule
value_rule id = record (new_rule id) { required = true }

-- one that may be left out, without a name before it
abbrev pub extra_rule : Text → Rule
extra_rule id = new_rule id

-- an option, which is named by two dashes and its id
abbrev pub option_rule : Text → Rule
option_rule id = record (new_rule id) { long = Some id; value_names = 1 }

-- an option that has to be there
abbrev pub required_rule : Text → Rule
required_rule id = record (option_rule id) { required = true }

-- an option that has this value where it isn't there
abbrev pub optional_rule : Text → Text → Rule
optional_rule id default = record (option_rule id) { defaults = default ∷ [] }

-- a flag, which is named by two dashes and its id
abbrev pub flag_rule : Text → Rule
flag_rule id = record (new_rule id) { long = Some id; action = Some SetTrue }

-- the same, which is a number from 1 to the highest
abbrev pub as_number : Rule → Rule
as_number a = record a { parser = Some (Signed (pos 1) (pos MOST)) }

-- the same, which is a number from 1 to the highest place
abbrev pub as_place : Rule → Rule
as_place a = record a { parser = Some (Signed (pos 1) (pos MOST_PLACE)) }

-- the same, which is a number of seconds from 1 to those of a day
abbrev pub as_seconds : Rule → Rule
as_seconds a = record a { parser = Some (Signed (pos 1) (pos MOST_SECONDS)) }

-- the flag that asks for a look
abbrev pub look_rule : Rule
look_rule = flag_rule (codes "look")

-- ---- commands
-- a command with these arguments
abbrev pub command_shape : Text → List Rule → Shape
command_shape name arguments = record (new_shape name) { rules = arguments }

-- a command is this one; it gives no argument to others
abbrev pub IsCommand : Text → List Rule → Command → Type 0
IsCommand name arguments c = (shape_of c ≡ command_shape name arguments) × ((out-Command c).has_globals ≡ false)

-- the commands for the pipeline and its resources
abbrev pub resource_commands : List Shape
resource_commands =
    command_shape (codes "set-pipeline") (value_rule (codes "FILE") ∷ [])
    ∷ command_shape (codes "validate-pipeline") (value_rule (codes "FILE") ∷ flag_rule (codes "strict") ∷ [])
    ∷ command_shape (codes "check-resource") (value_rule (codes "NAME") ∷ [])
    ∷ command_shape (codes "resource-versions")
    (value_rule (codes "NAME") ∷ flag_rule (codes "json") ∷ look_rule ∷ [])
    ∷ command_shape (codes "pin-resource") (value_rule (codes "NAME") ∷ value_rule (codes "JSON") ∷ [])
    ∷ command_shape (codes "unpin-resource") (value_rule (codes "NAME") ∷ [])
    ∷ command_shape (codes "disable-resource-version")
    (value_rule (codes "NAME") ∷ as_place (value_rule (codes "PLACE")) ∷ [])
    ∷ command_shape (codes "enable-resource-version")
    (value_rule (codes "NAME") ∷ as_place (value_rule (codes "PLACE")) ∷ [])
    ∷ []

-- the commands for jobs and builds
abbrev pub job_commands : List Shape
job_commands =
    command_shape (codes "resolve") (value_rule (codes "JOB") ∷ look_rule ∷ [])
    ∷ command_shape (codes "problem") (value_rule (codes "JOB") ∷ look_rule ∷ [])
    ∷ command_shape (codes "trigger-job") (value_rule (codes "JOB") ∷ [])
    ∷ command_shape (codes "abort-build") (value_rule (codes "JOB") ∷ as_number (value_rule (codes "N")) ∷ [])
    ∷ command_shape (codes "builds")
    (option_rule (codes "job") ∷ as_number (option_rule (codes "count")) ∷ flag_rule (codes "json") ∷ look_rule ∷ [])
    ∷ command_shape (codes "run") (as_number (required_rule (codes "rounds")) ∷ [])
    ∷ []

-- the commands that show the pipeline, and how its resources and jobs stand
abbrev pub standing_commands : List Shape
standing_commands =
    command_shape (codes "get-pipeline") (look_rule ∷ [])
    ∷ command_shape (codes "resources") (flag_rule (codes "json") ∷ look_rule ∷ [])
    ∷ command_shape (codes "jobs") (flag_rule (codes "json") ∷ look_rule ∷ [])
    ∷ command_shape (codes "red") (flag_rule (codes "json") ∷ look_rule ∷ [])
    ∷ command_shape (codes "graph") (look_rule ∷ [])
    ∷ command_shape (codes "page")
    (option_rule (codes "title") ∷ option_rule (codes "logs") ∷ as_seconds (option_rule (codes "refresh"))
    ∷ option_rule (codes "made") ∷ option_rule (codes "now") ∷ look_rule ∷ [])
    ∷ []

-- the commands that show what builds took
abbrev pub release_commands : List Shape
release_commands =
    command_shape (codes "build")
    (value_rule (codes "JOB") ∷ as_number (value_rule (codes "N")) ∷ flag_rule (codes "json") ∷ look_rule ∷ [])
    ∷ command_shape (codes "live") (value_rule (codes "JOB") ∷ flag_rule (codes "json") ∷ look_rule ∷ [])
    ∷ command_shape (codes "trace")
    (value_rule (codes "NAME") ∷ value_rule (codes "JSON") ∷ flag_rule (codes "json") ∷ look_rule ∷ [])
    ∷ []

-- the commands that show what a job's next build would take: so that it can be checked, and why
abbrev pub choice_commands : List Shape
choice_commands =
    command_shape (codes "certify") (value_rule (codes "JOB") ∷ as_number (extra_rule (codes "N")) ∷ look_rule ∷ [])
    ∷ command_shape (codes "explain") (value_rule (codes "JOB") ∷ flag_rule (codes "json") ∷ look_rule ∷ [])
    ∷ []

-- ---- the line
-- the options
abbrev pub options : List Rule
options =
    required_rule (codes "db")
    ∷ optional_rule (codes "types") (codes "/usr/local/lib/ccr/types")
    ∷ optional_rule (codes "work") (codes "/var/tmp/ccr")
    ∷ as_number (optional_rule (codes "budget") (codes "100000"))
    ∷ option_rule (codes "launcher")
    ∷ []

-- the program, to which a command has to be given
abbrev pub program : App
program = record { top = record (new_shape (codes "ccr_run")) { subcommand_required = true }; subs = [] }

-- the same with its options
abbrev pub options_line : App
options_line = record { top = record program.top { rules = options }; subs = [] }

-- the same with these commands
abbrev pub with_all : App → List Shape → App
with_all a [] = a
with_all a (s ∷ ss) = with_all (with_subcommand a s) ss

-- THE COMMAND LINE: the options, and then one of the commands
abbrev pub line : App
line =
    with_all (with_all (with_all (with_all (with_all options_line resource_commands) job_commands) standing_commands)
    release_commands) choice_commands
