-- The command that a command line names.
use Rattle.std.specs.Prelude.{ℕ, List, Option, Some, None, option_map, option_and_then, codes, if◌then◌else◌}
use Rattle.std.specs.Str.{bytes_eq}
use Rattle.clap.specs.declared.parser.matches.ArgMatches.{ArgMatches}
use Rattle.clap.specs.Words.{Row, Text, first_of, subcommand_rows_of}
use Rattle.ccr_core.specs.declared.form.Form.{Form}
use Rattle.ccr_core.specs.declared.form.Form.TheVariants.{Lines, Json}
use Rattle.ccr_core.specs.Commands.{CommandData, set_pipeline, check_resource, pin_resource, unpin_resource, disable_version, enable_version, trigger_job, run, shows}
use Rattle.ccr_core.specs.Commands.{versions, problem, proof, certificate, explanation, builds, build, trace, build_certificate, pipeline, resources, jobs, red, live, graph}
use Rattle.ccr_command.specs.Numbers.{number_of, place_of}

-- a pin of a resource, where both its arguments have a value
abbrev pub pin_named : Option Text → Option Text → Option CommandData
pin_named (Some resource) (Some pin) = Some (pin_resource resource pin)
pin_named _ _ = None

-- what is made of a resource and a place, where both arguments have a value and the place is in its range
abbrev pub place_named : (Text → ℕ → CommandData) → Option Text → Option Text → Option CommandData
place_named make (Some resource) (Some place) = option_map (make resource) (place_of place)
place_named make _ _ = None

-- a run of so many rounds, where their number is in its range
abbrev pub run_named : Option Text → Option CommandData
run_named rounds = option_map run (option_and_then number_of rounds)

-- the form in which it is shown: JSON where the flag was given, and else lines
abbrev pub form_named : Option Text → Form
form_named None = Lines
form_named (Some given) = if bytes_eq given (codes "true") then Json else Lines

-- the form that these values ask for
abbrev pub form_in : List Row → Form
form_in values = form_named (first_of (codes "json") values)

-- a resource whose versions are shown, where its name has a value
abbrev pub versions_named : Form → Option Text → Option CommandData
versions_named form resource = option_map (λ name. shows (versions form name)) resource

-- the builds that are shown: of a job, where it has a value; the newest ones, where their number has one and is in its range
abbrev pub builds_named : Form → Option Text → Option Text → Option CommandData
builds_named form job None = Some (shows (builds form job None))
builds_named form job (Some count) = option_map (λ n. shows (builds form job (Some n))) (number_of count)

-- a build that is shown, where both its arguments have a value and its number is in its range
abbrev pub build_named : Form → Option Text → Option Text → Option CommandData
build_named form (Some job) (Some number) = option_map (λ n. shows (build form job n)) (number_of number)
build_named form _ _ = None

-- the certificate of a job's next build, or of its build of this number, where the number is in its range
abbrev pub certify_named : Option Text → Option Text → Option CommandData
certify_named (Some job) None = Some (shows (certificate job))
certify_named (Some job) (Some number) = option_map (λ n. shows (build_certificate job n)) (number_of number)
certify_named None number = None

-- a job whose next build is explained, where its name has a value
abbrev pub explain_named : Form → Option Text → Option CommandData
explain_named form job = option_map (λ name. shows (explanation form name)) job

-- a job of which it is shown what is live, where its name has a value
abbrev pub live_named : Form → Option Text → Option CommandData
live_named form job = option_map (λ name. shows (live form name)) job

-- a version whose builds are shown, where both its arguments have a value
abbrev pub trace_named : Form → Option Text → Option Text → Option CommandData
trace_named form (Some resource) (Some pin) = Some (shows (trace form resource pin))
trace_named form _ _ = None

-- the command that a word names, with the first value of each of its arguments; none where there is no such command, or
-- where a value is absent or out of its range
abbrev pub command_named : Text → List Row → Option CommandData
command_named word values =
    if bytes_eq word (codes "set-pipeline") then option_map set_pipeline (first_of (codes "FILE") values)
    else if bytes_eq word (codes "check-resource") then option_map check_resource (first_of (codes "NAME") values)
    else if bytes_eq word (codes "resource-versions")
    then versions_named (form_in values) (first_of (codes "NAME") values)
    else if bytes_eq word (codes "pin-resource") then pin_named (first_of (codes "NAME") values) (first_of (codes "JSON") values)
    else if bytes_eq word (codes "unpin-resource") then option_map unpin_resource (first_of (codes "NAME") values)
    else if bytes_eq word (codes "disable-resource-version")
    then place_named disable_version (first_of (codes "NAME") values) (first_of (codes "PLACE") values)
    else if bytes_eq word (codes "enable-resource-version")
    then place_named enable_version (first_of (codes "NAME") values) (first_of (codes "PLACE") values)
    else if bytes_eq word (codes "resolve") then option_map (λ job. shows (proof job)) (first_of (codes "JOB") values)
    else if bytes_eq word (codes "problem") then option_map (λ job. shows (problem job)) (first_of (codes "JOB") values)
    else if bytes_eq word (codes "trigger-job") then option_map trigger_job (first_of (codes "JOB") values)
    else if bytes_eq word (codes "builds")
    then builds_named (form_in values) (first_of (codes "job") values) (first_of (codes "count") values)
    else if bytes_eq word (codes "run") then run_named (first_of (codes "rounds") values)
    else if bytes_eq word (codes "certify")
    then certify_named (first_of (codes "JOB") values) (first_of (codes "N") values)
    else if bytes_eq word (codes "explain")
    then explain_named (form_in values) (first_of (codes "JOB") values)
    else if bytes_eq word (codes "build")
    then build_named (form_in values) (first_of (codes "JOB") values) (first_of (codes "N") values)
    else if bytes_eq word (codes "live") then live_named (form_in values) (first_of (codes "JOB") values)
    else if bytes_eq word (codes "trace")
    then trace_named (form_in values) (first_of (codes "NAME") values) (first_of (codes "JSON") values)
    else if bytes_eq word (codes "get-pipeline") then Some (shows pipeline)
    else if bytes_eq word (codes "resources") then Some (shows (resources (form_in values)))
    else if bytes_eq word (codes "jobs") then Some (shows (jobs (form_in values)))
    else if bytes_eq word (codes "red") then Some (shows (red (form_in values)))
    else if bytes_eq word (codes "graph") then Some (shows graph)
    else None

-- THE COMMAND THAT MATCHES NAME: that of their subcommand and its values
abbrev pub command_in : ArgMatches → Option CommandData
command_in m = option_and_then (λ found. command_named found.0 found.1) (subcommand_rows_of m)
