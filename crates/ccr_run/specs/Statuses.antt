-- The status that the program ends with.
use Rattle.std.specs.Prelude.{ℕ, List, Bool, true, false, ◌||◌, Option, Some, None, codes, Result, Ok, Err, if◌then◌else◌}
use Rattle.clap.specs.Values.{kind_of}
use Rattle.clap.specs.declared.error.kind.ErrorKind.{ErrorKind}
use Rattle.clap.specs.declared.error.kind.ErrorKind.TheVariants.{DisplayHelp, DisplayVersion, InvalidSubcommand, UnknownArgument, ValueValidation}
use Rattle.ccr_history.specs.Text.{Text}
use Rattle.ccr_run.specs.declared.failure.Failure.{Failure}
use Rattle.ccr_run.specs.declared.order.Misuse.{Misuse}
use Rattle.ccr_run.specs.declared.order.Misuse.TheVariants.{Line, NoMemory}
use Rattle.ccr_run.specs.declared.run.Outcome.{Outcome}
use Rattle.ccr_run.specs.Refusals.{refusal_of}
use Rattle.ccr_run.specs.Typed.{has_word}

-- the command's own status, or that of its refusal
abbrev pub status_of : Result ℕ Failure → ℕ
status_of (Ok status) = status
status_of (Err failure) = (refusal_of failure).status

-- 4 where not all lines went out
abbrev pub printed_status : Bool → ℕ → ℕ
printed_status true status = status
printed_status false status = 4

-- THE STATUS OF AN OUTCOME
abbrev pub exit_status_of : Outcome → ℕ
exit_status_of outcome = printed_status outcome.is_printed (status_of outcome.end)

-- about a word that isn't known
abbrev pub unknown_word : Text
unknown_word = codes "hint: names stand without -j or -r, but for builds --job JOB; --db, --types, --work, --launcher and --budget stand before the command; ccr_run COMMAND --help has what stands behind it"

-- about a command that isn't known
abbrev pub unknown_command : Text
unknown_command = codes "hint: ccr_run --help has the commands; ccr (examples/operating) has more, as status, log and watch"

-- about words that name no command, or `validate-pipeline` behind options
abbrev pub no_command : List Text → Text
no_command words =
    if has_word (codes "validate-pipeline") words
    then codes "error: validate-pipeline needs no database, so no option stands before it: ccr_run validate-pipeline FILE [--strict]"
    else codes "error: no command\n\nFor more information, try '--help'."

-- a command is named by which a version is named by its place
abbrev pub names_place : List Text → Bool
names_place words = has_word (codes "disable-resource-version") words || has_word (codes "enable-resource-version") words

-- a command is named by which a build is named by its number
abbrev pub names_build : List Text → Bool
names_build words = has_word (codes "build") words || (has_word (codes "abort-build") words || has_word (codes "certify") words)

-- about a value that isn't as it should be, where no range says it
abbrev pub wrong_value : List Text → Option Text
wrong_value words =
    if names_place words then Some (codes "hint: a version is named by its place, which is a number: resource-versions NAME shows the places")
    else (if names_build words then Some (codes "hint: a build is named by its job and its number, as builds shows them") else None)

-- what to do about words that are no command line, by the kind of what is wrong with them
abbrev pub remedy_of : List Text → ErrorKind → Option Text
remedy_of words UnknownArgument = Some unknown_word
remedy_of words InvalidSubcommand = Some unknown_command
remedy_of words ValueValidation = wrong_value words
remedy_of words kind = None

-- 0 for help, else 2
abbrev pub line_status : ErrorKind → ℕ
line_status DisplayHelp = 0
line_status DisplayVersion = 0
line_status kind = 2

-- of words that order nothing: 0 where they ask for help, 4 out of memory, else 2
abbrev pub misuse_status : Misuse → ℕ
misuse_status (Line error) = line_status (kind_of error)
misuse_status NoMemory = 4
misuse_status misuse = 2
