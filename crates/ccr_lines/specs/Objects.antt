-- The texts of JSON objects, member by member.
use Rattle.std.specs.Prelude.{List, [], ◌∷◌, ◌++◌, Bool, true, false, option_copied, decimal}
use Rattle.serde_json.specs.Data.{Data, null, boolean, number, unsigned, string, Members, no_members, member}
use Rattle.serde_json.specs.Written.{compact_text, comma_if}
use Rattle.ccr_history.specs.Text.{Text}
use Rattle.ccr_lines.specs.declared.object.Field.{Field}
use Rattle.ccr_lines.specs.declared.object.Field.TheVariants as field
use Rattle.ccr_lines.specs.Json.{fields_json, array_of}

-- the text of a member's value: nothing is null, a numeral is a number as a string, and what is JSON already stands as it is
abbrev pub field_text : Field → Text
field_text field.Null = compact_text null
field_text (field.Flag b) = compact_text (boolean b)
field_text (field.Number n) = compact_text (number (unsigned n))
field_text (field.Numeral n) = compact_text (string (decimal n))
field_text (field.Text t) = compact_text (string t.now)
field_text (field.Version v) = compact_text (fields_json (option_copied v))
field_text (field.Pin p) = compact_text (fields_json (option_copied p))
field_text (field.Json text) = text.now
field_text (field.Items items) = array_of items.now

-- a member's name with its text, behind a comma where others stand before it
abbrev pub member_text : Bool → Text × Text → Text
member_text later m = comma_if later ++ (compact_text (string m.0) ++ 58 ∷ m.1)

-- these members, and the end of their object
abbrev pub members_text : Bool → List (Text × Text) → Text
members_text later [] = 125 ∷ []
members_text later (m ∷ ms) = comma_if later ++ (compact_text (string m.0) ++ 58 ∷ (m.1 ++ members_text true ms))

-- THE TEXT OF AN OBJECT of these names, in their order, with these texts of their values
abbrev pub object_text : List (Text × Text) → Text
object_text ms = 123 ∷ members_text false ms

-- the members of these names with these values, as many as there are of both
abbrev pub named : List Text → List Data → Members
named [] ds = no_members
named (n ∷ ns) [] = no_members
named (n ∷ ns) (d ∷ ds) = member n d (named ns ds)
