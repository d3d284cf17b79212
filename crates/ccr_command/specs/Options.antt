-- The options of a command line.
use Rattle.std.specs.Prelude.{ℕ, Option, Some, None, Result, Ok, Err, Bool, false, ◌==◌, option_map, option_and_then, slice_get, codes, if◌then◌else◌}
use Rattle.std.specs.Option.{option_map_or}
use Rattle.clap.specs.declared.parser.matches.Found.{Found}
use Rattle.clap.specs.Words.{Text, first_value}
use Rattle.ccr_command.specs.declared.options.Options.{Options}
use Rattle.ccr_command.specs.declared.options.OptionFault.{OptionFault}
use Rattle.ccr_command.specs.declared.options.OptionFault.TheVariants.{Database, Types, Work, Budget, Launcher}
use Rattle.ccr_command.specs.Numbers.{number_of}

-- the five options, of which the launcher may be absent
pub record OptionsData : Type 0 where
  pub database : Text
  pub types : Text
  pub work : Text
  pub budget : ℕ
  pub launcher : Option Text

-- what a value of the program's type stands for
abbrev pub options_data : Options → OptionsData
options_data o = record {
  database = o.database.now;
  types = o.types.now;
  work = o.work.now;
  budget = o.budget;
  launcher = option_map (λ l. l.now) o.launcher;
}

-- the path begins with a slash
abbrev pub is_from_the_top : Text → Bool
is_from_the_top path = option_map_or (λ first. first == 47) (slice_get path 0) false

-- the path, where it begins with a slash
abbrev pub from_the_top : Text → Option Text
from_the_top path = if is_from_the_top path then Some path else None

-- the launcher, if one is named: its path, where that begins with a slash
abbrev pub launcher_in : Option Text → Option (Option Text)
launcher_in None = Some None
launcher_in (Some path) = option_map (λ l. Some l) (from_the_top path)

-- what is made of a value, or the fault of its absence
abbrev pub given_or : {A : Type 0} → OptionFault → Option A → (A → Result OptionsData OptionFault) → Result OptionsData OptionFault
given_or fault None make = Err fault
given_or fault (Some a) make = make a

-- THE OPTIONS OF MATCHES, or the first that is absent or out of its range
abbrev pub options_in : Found → Result OptionsData OptionFault
options_in found =
    given_or Database (first_value found (codes "db")) (λ database.
    given_or Types (option_and_then from_the_top (first_value found (codes "types"))) (λ types.
    given_or Work (option_and_then from_the_top (first_value found (codes "work"))) (λ work.
    given_or Budget (option_and_then number_of (first_value found (codes "budget"))) (λ budget.
    given_or Launcher (launcher_in (first_value found (codes "launcher"))) (λ launcher.
    Ok (record { database = database; types = types; work = work; budget = budget; launcher = launcher }))))))
