-- Names that may not be repeated.
use Rattle.std.specs.Prelude.{ℕ, List, [], ◌∷◌, ◌++◌, map, Bool, Option, option_and_then, String, string_bytes, if◌then◌else◌}
use Rattle.std.specs.List.{list_any}
use Rattle.std.specs.Str.{bytes_eq}
use Rattle.std.specs.declared.alloc.Global.{Global}
use Rattle.serde_json.specs.Data.{Data, Items, no_items, item}
use Rattle.serde_json.specs.Find.{as_str}
use Rattle.ccr_pipeline.specs.Keys.{at_key, or_else}

-- texts by their bytes
abbrev pub names_of : List (String Global) → List (List ℕ)
names_of names = map string_bytes names

-- the name is among these
abbrev pub has_name : List (List ℕ) → List ℕ → Bool
has_name names name = list_any (bytes_eq name) names

-- the names with one that they lack at their end
abbrev pub with_name : List (List ℕ) → List ℕ → List (List ℕ)
with_name names name = if has_name names name then names else names ++ name ∷ []

-- the text at a key
abbrev pub text_at : List ℕ → Data → Option (List ℕ)
text_at k d = option_and_then as_str (at_key k d)

-- the name at a key, if a text is there
abbrev pub names_at : List ℕ → Data → List (List ℕ)
names_at k d = or_else (text_at k d) [] (λ name. name ∷ [])

-- the names with those of a list that they lack, in its order
abbrev pub with_names : List (List ℕ) → List (List ℕ) → List (List ℕ)
with_names names [] = names
with_names names (t ∷ ts) = with_names (with_name names t) ts

-- the texts of a list
abbrev pub texts_in : Items → List (List ℕ)
texts_in no_items = []
texts_in (item d ds) = or_else (as_str d) [] (λ s. s ∷ []) ++ texts_in ds
