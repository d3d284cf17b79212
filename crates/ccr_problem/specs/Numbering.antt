-- How the names that a plan mentions are numbered.
use Rattle.std.specs.Prelude.{ℕ, List, []}
use Rattle.std.specs.List.{position_or_len}
use Rattle.std.specs.Str.{bytes_eq}
use Rattle.ccr_history.specs.Text.{Text}
use Rattle.ccr_pipeline.specs.Names.{with_names}

-- the names, each once, in order of first mention
abbrev pub each_once : List Text → List Text
each_once names = with_names [] names

-- the number of a name among others: how many stand before it
abbrev pub number_of : List Text → Text → ℕ
number_of names name = position_or_len (bytes_eq name) names
