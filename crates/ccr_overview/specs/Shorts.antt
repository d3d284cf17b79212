-- Versions in a few letters.
use Rattle.std.specs.Prelude.{ℕ, List, [], ◌∷◌, ◌++◌, length, take, drop, flat_map, Bool, ◌&&◌, ◌==◌, ◌||◌, nat_le, if◌then◌else◌, Option, Some, option_and_then, String, codes, string_bytes}
use Rattle.std.specs.declared.alloc.Global.{Global}
use Rattle.std.specs.List.{list_all}
use Rattle.std.specs.Option.{option_map_or}
use Rattle.std.specs.Str.{bytes_eq}
use Rattle.serde_json.specs.Data.{Data, Members, no_members, member}
use Rattle.serde_json.specs.Find.{as_str}
use Rattle.ccr_history.specs.Text.{Text}
use Rattle.ccr_history.specs.TextMap.{TextMap, key_text}
use Rattle.ccr_history.specs.Tables.{at_place, versions_at}
use Rattle.ccr_history.specs.History.{HistoryData}
use Rattle.ccr_overview.specs.Each.{each_from}
use Rattle.ccr_overview.specs.PageData.{VersionData}

-- a hexadecimal digit in lowercase
abbrev pub is_hex : ℕ → Bool
is_hex b = (nat_le 48 b && nat_le b 57) || (nat_le 97 b && nat_le b 102)

-- a long hexadecimal number
abbrev pub is_hash : Text → Bool
is_hash t = nat_le 16 (length t) && list_all is_hex t

-- the text begins with this one
abbrev pub begins : Text → Text → Bool
begins start t = bytes_eq (take (length start) t) start

-- what follows the name of a hash, if the text begins with one
abbrev pub behind_name : Text → Text
behind_name t =
    if begins (codes "sha256:") t then drop 7 t
    else (if begins (codes "sha512:") t then drop 7 t else (if begins (codes "sha1:") t then drop 5 t else t))

-- a text; of a hash the first seven digits
abbrev pub short_text : Text → Text
short_text t = if is_hash (behind_name t) then take 7 (behind_name t) else t

-- what a field of the program's type stands for
abbrev pub field_data : String Global × String Global → Text × Text
field_data f = (string_bytes f.0, string_bytes f.1)

-- these fields, and then those of an object with these members, if each of them is a text
abbrev pub texts_onto : TextMap → Members → Option TextMap
texts_onto fields no_members = Some fields
texts_onto fields (member k d ms) = option_and_then (λ text. texts_onto (fields ++ (k, text) ∷ []) ms) (as_str d)

-- a field of a version, behind the others
abbrev pub short_field : ℕ → Text × Text → Text
short_field k field = (if k == 0 then [] else codes ", ") ++ (field.0 ++ (codes " " ++ short_text field.1))

-- A VERSION IN A FEW LETTERS: its only text; or each field with its text
abbrev pub short : TextMap → Text
short fields = if length fields == 1 then flat_map (λ f. short_text f.1) fields else each_from short_field 0 fields

-- the same, and in full
abbrev pub version_of : TextMap → VersionData
version_of v = record { key = key_text v; short = short v }

-- the version at a place of the scope of this number
abbrev pub version_there : HistoryData → ℕ → ℕ → Option TextMap
version_there h scope place = at_place place (versions_at scope h.tables)

-- the same in a few letters; nothing where there is none
abbrev pub short_there : HistoryData → ℕ → ℕ → Text
short_there h scope place = option_map_or (λ v. short v) (version_there h scope place) []
