-- Names, and values whose parts are texts.
use Rattle.std.specs.Prelude.{ℕ, ◌+◌, List, [], ◌++◌, length, Bool, true, false, not, ◌&&◌, ◌==◌, nat_le, nat_eq, is_some, codes}
use Rattle.std.specs.List.{list_all}
use Rattle.std.specs.Str.{bytes_eq}
use Rattle.serde_json.specs.Data.{Data, Items, no_items, item, Members, no_members, member}
use Rattle.serde_json.specs.Find.{as_str, as_object}
use Rattle.ccr_pipeline.specs.declared.fault.Rule.TheVariants as rule
use Rattle.ccr_pipeline.specs.declared.kind.TheConstants.{MOST_NAME_BYTES}
use Rattle.ccr_pipeline.specs.Faults.{Path, Faults, unless}
use Rattle.ccr_pipeline.specs.Keys.{or_else, path_below, path_at}

-- the value is a text
abbrev pub is_text : Data → Bool
is_text d = is_some (as_str d)

-- no control byte and no slash
abbrev pub is_name_byte : ℕ → Bool
is_name_byte b = nat_le 32 b && not (nat_eq b 127) && not (nat_eq b 47)

-- 1 to 128 bytes, each of them one of a name, and neither one point nor two
unfoldable pub is_name : List ℕ → Bool
is_name s =
    not (length s == 0) && (nat_le (length s) MOST_NAME_BYTES
    && (not (bytes_eq s (codes ".")) && (not (bytes_eq s (codes "..")) && list_all is_name_byte s)))

-- a list's members that are no texts
abbrev pub broken_texts : Path → ℕ → Items → Faults
broken_texts p i no_items = []
broken_texts p i (item d ds) = unless (is_text d) rule.Kind (path_at p i) ++ broken_texts p (i + 1) ds

-- an object's fields that are no texts
abbrev pub broken_fields : Path → Members → Faults
broken_fields p no_members = []
broken_fields p (member k d ms) = unless (is_text d) rule.Kind (path_below p k) ++ broken_fields p ms

-- an object has no members
abbrev pub is_empty : Members → Bool
is_empty no_members = true
is_empty (member k d ms) = false

-- an object whose fields are all texts
abbrev pub broken_pin : Path → Data → Faults
broken_pin p d = or_else (as_object d) (unless false rule.Kind p) (λ ms. broken_fields p ms)
