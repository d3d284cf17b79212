-- Maps from texts to texts, as versions and pins are.
use Rattle.std.specs.Prelude.{◌≡◌, ℕ, List, [], ◌∷◌, map, Bool, false, Option, Some, None, option_map, option_and_then, unwrap_or}
use Rattle.std.specs.List.{list_all}
use Rattle.std.specs.List.Sorted.{IsStrictlySortedBy}
use Rattle.std.specs.Option.{option_map_or}
use Rattle.std.specs.Ordering.{nat_cmp, match_ordering}
use Rattle.std.specs.Str.{bytes_eq}
use Rattle.std.specs.Cmp.Lexicographic.{slice_cmp}
use Rattle.serde_json.specs.Data.{Data, string, object, Members, no_members, member}
use Rattle.serde_json.specs.Find.{as_object, as_str}
use Rattle.serde_json.specs.Read.{read}
use Rattle.serde_json.specs.Written.{compact_text}

-- the fields, each a key and its text
abbrev pub TextMap : Type 0
TextMap = List (List ℕ × List ℕ)

-- the keys ascend by their bytes, so each key stands once
abbrev pub IsAscending : TextMap → Type 0
IsAscending fields = IsStrictlySortedBy (slice_cmp nat_cmp) (map (λ field. field.0) fields)

-- the fields of an object with these members, if each member is a text
abbrev pub texts_of : Members → Option TextMap
texts_of no_members = Some []
texts_of (member k d ms) = option_and_then (λ text. option_map (λ fields. (k, text) ∷ fields) (texts_of ms)) (as_str d)

-- the map that a JSON value is: an object whose fields are all texts
abbrev pub text_map_of : Data → Option TextMap
text_map_of d = option_and_then texts_of (as_object d)

-- the text at a key
abbrev pub text_at : List ℕ → TextMap → Option (List ℕ)
text_at k [] = None
text_at k (field ∷ fields) = match_ordering (slice_cmp nat_cmp k field.0) (text_at k fields) (Some field.1) (text_at k fields)

-- the map has this field, with the same text
abbrev pub has : TextMap → List ℕ × List ℕ → Bool
has fields field = option_map_or (bytes_eq field.1) (text_at field.0 fields) false

-- a version meets a pin if it has each field that the pin names, with the same text
abbrev pub meets : TextMap → TextMap → Bool
meets version pin = list_all (has version) pin

-- the members of the JSON object with these fields
abbrev pub members_of : TextMap → Members
members_of [] = no_members
members_of (field ∷ fields) = member field.0 (string field.1) (members_of fields)

-- the compact JSON text of the object with these fields, which keeps the order of the keys
abbrev pub key_text : TextMap → List ℕ
key_text fields = compact_text (object (members_of fields))

-- the two versions are one: same key
abbrev pub is_version : TextMap → TextMap → Bool
is_version v w = bytes_eq (key_text v) (key_text w)

-- the map that a JSON text spells; without fields where it spells none
unfoldable pub fields_in : List ℕ → TextMap
fields_in text = unwrap_or (option_and_then text_map_of (read text)) []

-- the text is the key of a map: the compact text of the map that it spells, whose keys ascend
abbrev pub IsKey : List ℕ → Type 0
IsKey text = (text ≡ key_text (fields_in text)) × IsAscending (fields_in text)
