-- What is broken in an object, key by key in the order of its table.
use Rattle.std.specs.Prelude.{ℕ, zero, suc, ◌+◌, List, [], ◌∷◌, ◌++◌, false, not, ◌||◌, is_some, option_and_then, codes, if◌then◌else◌}
use Rattle.std.specs.Str.{bytes_eq}
use Rattle.serde_json.specs.Data.{Data, Items, no_items, item}
use Rattle.serde_json.specs.Find.{as_str, as_bool, as_number, as_u64, as_array, as_object}
use Rattle.serde_json.specs.Written.{has_float}
use Rattle.ccr_pipeline.specs.declared.fault.Rule.TheVariants as rule
use Rattle.ccr_pipeline.specs.declared.schema.Need.{Need}
use Rattle.ccr_pipeline.specs.declared.schema.Need.TheVariants.{New, Must, May}
use Rattle.ccr_pipeline.specs.declared.schema.Kind.{Kind}
use Rattle.ccr_pipeline.specs.declared.schema.Kind.TheVariants as kind
use Rattle.ccr_pipeline.specs.declared.schema.Schema.{Schema}
use Rattle.ccr_pipeline.specs.declared.schema.Schema.TheVariants as schema
use Rattle.ccr_pipeline.specs.Faults.{Path, Faults, unless}
use Rattle.ccr_pipeline.specs.Keys.{at_key, or_else, items_in, path_below, path_at}
use Rattle.ccr_pipeline.specs.Kinds.{is_text, is_name, broken_texts, broken_pin, is_empty}
use Rattle.ccr_pipeline.specs.Names.{text_at, has_name}
use Rattle.ccr_pipeline.specs.Schema.{Row, opening}

-- what keeps the value at a path from being of a kind, but for what is in the objects that it holds
unfoldable pub broken : Kind → Path → Data → Faults
broken kind.Text p d = unless (is_text d) rule.Kind p
broken kind.Name p d = or_else (as_str d) (unless false rule.Kind p) (λ s. unless (is_name s) rule.Name p)
broken kind.OwnName p d = unless (is_text d) rule.Kind p
broken kind.Texts p d = or_else (as_array d) (unless false rule.Kind p) (λ ds. broken_texts p 0 ds)
broken kind.Truth p d = unless (is_some (as_bool d)) rule.Kind p
broken kind.Whole p d = unless (is_some (option_and_then as_u64 (as_number d))) rule.Kind p
broken kind.Params p d =
    or_else (as_object d) (unless false rule.Kind p) (λ ms. unless (not (has_float d)) rule.Whole p)
broken kind.Fields p d = broken_pin p d
broken kind.Nothing p d = or_else (as_object d) (unless false rule.Kind p) (λ ms. unless (is_empty ms) rule.Supported p)
broken kind.Wanted p d =
    or_else (as_str d) (broken_pin p d)
    (λ s. unless (bytes_eq s (codes "latest") || bytes_eq s (codes "every")) rule.Kind p)
broken (kind.Object s) p d = []
broken (kind.Objects s) p d = unless (is_some (as_array d)) rule.Kind p
broken kind.Steps p d = unless (is_some (as_array d)) rule.Kind p
broken kind.Parallel p d = []
broken kind.Step p d = []
broken kind.Attempts p d = []
broken kind.Any p d = []
broken kind.Undone p d = unless false rule.Supported p

-- a key that isn't there
abbrev pub absent : Need → Path → Faults
absent New p = unless false rule.Presence p
absent Must p = unless false rule.Presence p
absent May p = []

-- a text that an earlier object has, these being theirs
abbrev pub once : Need → List (List ℕ) → Path → Data → Faults
once New names p d = or_else (as_str d) [] (λ name. unless (not (has_name names name)) rule.Once p)
once Must names p d = []
once May names p d = []

-- the text that no later object may have
abbrev pub once_names : Need → Data → List (List ℕ)
once_names New d = or_else (as_str d) [] (λ name. name ∷ [])
once_names Must d = []
once_names May d = []

-- that of a key's value
abbrev pub row_names : Row → Data → List (List ℕ)
row_names r d = or_else (at_key r.2 d) [] (once_names r.0)

-- those of the values of a table's keys
abbrev pub new_names : List Row → Data → List (List ℕ)
new_names [] d = []
new_names (r ∷ rs) d = row_names r d ++ new_names rs d

-- how values are tested: by kind and path, in an object, each value
abbrev pub Test : Type 0
Test = Kind → Path → Data → Data → Faults

-- what is broken at a key of an object, its value by test, after objects of these names
abbrev pub row_faults : Test → List (List ℕ) → Row → Path → Data → Faults
row_faults test names r p d =
    or_else (at_key r.2 d) (absent r.0 (path_below p r.2))
    (λ found. test r.1 (path_below p r.2) d found ++ once r.0 names (path_below p r.2) found)

-- what is broken at the keys of a table, in its order
abbrev pub key_faults : Test → List (List ℕ) → List Row → Path → Data → Faults
key_faults test names [] p d = []
key_faults test names (r ∷ rs) p d =
    row_faults test names r p d ++ key_faults test (names ++ row_names r d) rs p d

-- what is broken in an object of a schema
unfoldable pub object_faults : Test → List (List ℕ) → Schema → Path → Data → Faults
object_faults test names s p d = unless (is_some (as_object d)) rule.Kind p ++ key_faults test names (opening s) p d

-- what is broken in the objects of a list, from position i on
abbrev pub each_object : Test → List (List ℕ) → Schema → Path → ℕ → Items → Faults
each_object test names s p i no_items = []
each_object test names s p i (item d ds) =
    object_faults test names s (path_at p i) d ++ each_object test (names ++ new_names (opening s) d) s p (i + 1) ds

-- an artifact's path, where it has a name, is this name
abbrev pub own_name : Path → Data → Data → Faults
own_name p whole d =
    or_else (as_str d) [] (λ s. or_else (text_at (codes "name") whole) [] (λ name. unless (bytes_eq s name) rule.Supported p))

-- what is broken in the objects that the value at a path holds, and beside its object's name
abbrev pub inside : Test → Test
inside test (kind.Object s) p whole d = object_faults test [] s p d
inside test (kind.Objects s) p whole d = each_object test [] s p 0 (items_in d)
inside test kind.Parallel p whole d = if is_some (as_array d) then [] else object_faults test [] schema.Parallel p d
inside test kind.OwnName p whole d = own_name p whole d
inside test _ p whole d = []

-- what is broken in a value that holds objects so many levels deep
unfoldable pub value_faults : ℕ → Test
value_faults zero k p whole d = broken k p d
value_faults (suc n) k p whole d = broken k p d ++ inside (value_faults n) k p whole d
