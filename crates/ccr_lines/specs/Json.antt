-- JSON values that are shown, and their texts.
use Rattle.std.specs.Prelude.{◌≡◌, List, [], ◌∷◌, ◌++◌, drop, flat_map, Option}
use Rattle.std.specs.Option.{option_map_or}
use Rattle.serde_json.specs.Data.{Data, null, array, object}
use Rattle.serde_json.specs.View.{items_of}
use Rattle.serde_json.specs.Written.{compact_text}
use Rattle.ccr_history.specs.Text.{Text}
use Rattle.ccr_history.specs.TextMap.{TextMap, members_of}

-- ---- values
-- an array of these values
abbrev pub list : List Data → Data
list ds = array (items_of ds)

-- the object of a version's or a pin's fields; null where there is none
abbrev pub fields_json : Option TextMap → Data
fields_json found = option_map_or (λ fields. object (members_of fields)) found null

-- ---- texts
-- THE TEXT OF A VALUE: compact, on one line
abbrev pub json_line : Data → Text
json_line d = compact_text d ++ 10 ∷ []

-- a value, behind a comma
abbrev pub after_comma : Data → Text
after_comma d = 44 ∷ compact_text d

-- an array of the values in this text, each of which stands behind a comma
abbrev pub array_of : Text → Text
array_of items = 91 ∷ (drop 1 items ++ 93 ∷ [])

-- each of these values behind a comma, of some that there may be
abbrev pub AreItems : (List Data → Type 0) → Text → Type 0
AreItems May items = (ds : List Data) × May ds × (items ≡ flat_map after_comma ds)
