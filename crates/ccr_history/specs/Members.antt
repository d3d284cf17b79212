-- The members of a JSON object, and where they stand in the object's compact text.
use Rattle.std.specs.Prelude.{◌≡◌, ℕ, List, [], ◌∷◌, ◌++◌, Bool, true, is_some, Option, Some, None, ◌⊎◌}
use Rattle.std.specs.List.{list_any, list_all}
use Rattle.std.specs.Str.{bytes_eq}
use Rattle.json.specs.Print.{quoted}
use Rattle.serde_json.specs.Data.{Data}
use Rattle.serde_json.specs.Find.{as_str}
use Rattle.serde_json.specs.Written.{members_text}
use Rattle.ccr_history.specs.TextMap.{TextMap, members_of}

-- the value is a text
abbrev pub is_text : Data → Bool
is_text d = is_some (as_str d)

-- a member's text: its key and its text, each quoted, with a colon between
abbrev pub member_text : List ℕ × List ℕ → List ℕ
member_text field = quoted field.0 ++ 58 ∷ quoted field.1

-- what follows a member, where these fields are left: a comma before each, and the closing brace
abbrev pub rest_text : TextMap → List ℕ
rest_text fields = members_text true (members_of fields)

-- in the text these fields are left: behind one byte, a brace or a comma, the first of them stands, if there is one
abbrev pub IsLeft : TextMap → List ℕ → Type 0
IsLeft [] text = (x : ℕ) × ((text ≡ x ∷ []) ⊎ (text ≡ x ∷ 125 ∷ []))
IsLeft (field ∷ fields) text = (x : ℕ) × (text ≡ x ∷ (member_text field ++ rest_text fields))

-- the first member's text and what follows it, where these fields are left
abbrev pub first_member : TextMap → Option (List ℕ × List ℕ)
first_member [] = None
first_member (field ∷ fields) = Some (member_text field, rest_text fields)

-- one of the fields has this text
abbrev pub has_member : TextMap → List ℕ → Bool
has_member fields text = list_any (λ field. bytes_eq (member_text field) text) fields

-- each of the wanted fields has a text that one of the fields has
abbrev pub has_members : TextMap → TextMap → Bool
has_members fields wanted = list_all (λ field. has_member fields (member_text field)) wanted
