-- The build that a command line asks to be aborted.
use Rattle.std.specs.Prelude.{ℕ, List, Option, Some, None, option_map, option_and_then, codes, if◌then◌else◌}
use Rattle.std.specs.Str.{bytes_eq}
use Rattle.clap.specs.declared.parser.matches.ArgMatches.{ArgMatches}
use Rattle.clap.specs.Words.{Row, Text, first_of, subcommand_rows_of}
use Rattle.ccr_command.specs.declared.abort.AbortRequest.{AbortRequest}
use Rattle.ccr_command.specs.Numbers.{number_of}

-- the job and the number of a build that is to be aborted
pub record AbortData : Type 0 where
  pub job : Text
  pub number : ℕ

-- what a value of the program's type stands for
abbrev pub abort_data : AbortRequest → AbortData
abort_data a = record { job = a.job.now; number = a.number }

-- the build of this job and number, where both have a value and the number is in its range
abbrev pub build_named : Option Text → Option Text → Option AbortData
build_named None number = None
build_named (Some job) number = option_map (λ n. record { job = job; number = n }) (option_and_then number_of number)

-- the build that a word asks to be aborted, with the first value of each of its arguments; none where it is another word,
-- or where a value is absent or out of its range
abbrev pub abort_named : Text → List Row → Option AbortData
abort_named word values =
    if bytes_eq word (codes "abort-build")
    then build_named (first_of (codes "JOB") values) (first_of (codes "N") values)
    else None

-- THE BUILD THAT MATCHES ASK TO BE ABORTED: that of their subcommand and its values
abbrev pub abort_in : ArgMatches → Option AbortData
abort_in m = option_and_then (λ found. abort_named found.0 found.1) (subcommand_rows_of m)
