-- Names, each once; a name's number is its position.
use Rattle.std.specs.Prelude.{◌≡◌, ℕ, List, [], ◌∷◌, ◌++◌, map, Bool, String, string_bytes, slice_index_or, false, AllPairs, if◌then◌else◌}
use Rattle.std.specs.List.{list_any}
use Rattle.std.specs.Str.{bytes_eq}
use Rattle.std.specs.declared.alloc.Global.{Global}
use Rattle.ccr_history.specs.Text.{Text}

-- texts by their bytes
abbrev pub texts_of : List (String Global) → List Text
texts_of names = map string_bytes names

-- the name is among these
abbrev pub has_name : List Text → Text → Bool
has_name names name = list_any (bytes_eq name) names

-- the names with one that they lack at their end
abbrev pub with_name : List Text → Text → List Text
with_name names name = if has_name names name then names else names ++ name ∷ []

-- the name of this number
abbrev pub name_at : List Text → ℕ → Text
name_at names n = slice_index_or names n []

-- no name stands there twice
abbrev pub AreApart : List Text → Type 0
AreApart names = AllPairs (λ a b. bytes_eq a b ≡ false) names

-- the second has the names of the first, and more after them
abbrev pub HasMore : List Text → List Text → Type 0
HasMore names more = (rest : List Text) × (more ≡ names ++ rest)
