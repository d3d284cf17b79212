-- What stands among the words that are typed.
use Rattle.std.specs.Prelude.{List, Bool, false, ◌==◌, nat_eq, slice_get}
use Rattle.std.specs.List.{list_any, starts_with}
use Rattle.std.specs.Option.{option_map_or}
use Rattle.std.specs.Str.{bytes_eq}
use Rattle.ccr_history.specs.Text.{Text}

-- a word is one of these
abbrev pub has_word : Text → List Text → Bool
has_word word words = list_any (λ w. bytes_eq w word) words

-- one of these begins so
abbrev pub has_option : Text → List Text → Bool
has_option option words = list_any (λ w. starts_with nat_eq w option) words

-- a word is an option
abbrev pub is_option : Text → Bool
is_option word = option_map_or (λ first. first == 45) (slice_get word 0) false
