-- The page that a command line asks for.
use Rattle.std.specs.Prelude.{ℕ, List, Option, Some, None, Result, Ok, Err, option_map, codes, if◌then◌else◌}
use Rattle.std.specs.Str.{bytes_eq}
use Rattle.clap.specs.declared.parser.matches.ArgMatches.{ArgMatches}
use Rattle.clap.specs.Words.{Row, Text, first_of, subcommand_rows_of}
use Rattle.ccr_command.specs.declared.options.OptionFault.{OptionFault}
use Rattle.ccr_command.specs.declared.options.OptionFault.TheVariants.{Refresh}
use Rattle.ccr_command.specs.declared.page.PageRequest.{PageRequest}
use Rattle.ccr_command.specs.Numbers.{seconds_of}

-- what a page is to say of itself
pub record PageData : Type 0 where
  pub title : Text
  pub made : Option Text
  pub now : Option Text
  pub refresh : Option ℕ
  pub logs : Option Text

-- what a value of the program's type stands for
abbrev pub page_data : PageRequest → PageData
page_data p = record {
  title = p.title.now;
  made = option_map (λ t. t.now) p.made;
  now = option_map (λ t. t.now) p.now;
  refresh = p.refresh;
  logs = option_map (λ t. t.now) p.logs;
}

-- the heading: the one that is given, or else `Pipeline`
abbrev pub title_named : Option Text → Text
title_named None = codes "Pipeline"
title_named (Some title) = title

-- the seconds, if any are given: their number, where it is in its range
abbrev pub refresh_named : Option Text → Option (Option ℕ)
refresh_named None = Some None
refresh_named (Some text) = option_map (λ n. Some n) (seconds_of text)

-- the page that is read again after these seconds, or the fault of seconds out of their range
abbrev pub page_with : List Row → Option (Option ℕ) → Result (Option PageData) OptionFault
page_with values None = Err Refresh
page_with values (Some refresh) = Ok (Some (record {
  title = title_named (first_of (codes "title") values);
  made = first_of (codes "made") values;
  now = first_of (codes "now") values;
  refresh = refresh;
  logs = first_of (codes "logs") values;
}))

-- the page that a word asks for, with the first value of each of its options; none where it is another word
abbrev pub page_named : Text → List Row → Result (Option PageData) OptionFault
page_named word values =
    if bytes_eq word (codes "page")
    then page_with values (refresh_named (first_of (codes "refresh") values))
    else Ok None

-- the page that a subcommand asks for, if there is one
abbrev pub page_by : Option (Text × List Row) → Result (Option PageData) OptionFault
page_by None = Ok None
page_by (Some found) = page_named found.0 found.1

-- THE PAGE THAT MATCHES ASK FOR: that of their subcommand and its values, none where that is another one; or the fault of
-- its seconds
abbrev pub page_in : ArgMatches → Result (Option PageData) OptionFault
page_in m = page_by (subcommand_rows_of m)
