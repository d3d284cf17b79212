-- What a command line asks to look at.
use Rattle.std.specs.Prelude.{List, Bool, true, false, Option, Some, None, codes, if◌then◌else◌}
use Rattle.std.specs.Option.{option_map_or}
use Rattle.std.specs.Str.{bytes_eq}
use Rattle.clap.specs.declared.parser.matches.ArgMatches.{ArgMatches}
use Rattle.clap.specs.Words.{Row, Text, first_of, subcommand_rows_of}
use Rattle.ccr_core.specs.Commands.{CommandData, ShownData, shows}
use Rattle.ccr_command.specs.Commands.{command_in}

-- the flag was given
abbrev pub is_given : Option Text → Bool
is_given None = false
is_given (Some given) = bytes_eq given (codes "true")

-- these values ask for a look
abbrev pub is_look : List Row → Bool
is_look values = is_given (first_of (codes "look") values)

-- THE MATCHES ASK FOR A LOOK: the values of their subcommand do
abbrev pub asks_look : ArgMatches → Bool
asks_look m = option_map_or (λ found. is_look found.1) (subcommand_rows_of m) false

-- what a command shows that changes nothing
abbrev pub shown_by : Option CommandData → Option ShownData
shown_by (Some (shows what)) = Some what
shown_by command = None

-- what is looked at: what the command shows, where a look is asked for
abbrev pub look_by : Bool → Option CommandData → Option ShownData
look_by asks command = if asks then shown_by command else None

-- WHAT MATCHES ASK TO LOOK AT
abbrev pub look_in : ArgMatches → Option ShownData
look_in m = look_by (asks_look m) (command_in m)
