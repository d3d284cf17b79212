-- Texts that a variable was to replace.
use Rattle.std.specs.Prelude.{◌≡◌, ℕ, ◌+◌, ◌-◌, List, [], ◌∷◌, ◌++◌, drop, length, slice_get, Option, Some, None, Bool, false, not, ◌&&◌, ◌||◌, ◌==◌, nat_le, IsTrue, codes, if◌then◌else◌}
use Rattle.std.specs.List.{list_all}
use Rattle.serde_json.specs.Data.{Data, null, boolean, number, string, array, object, Items, no_items, item, Members, no_members, member}
use Rattle.ccr_pipeline.specs.Faults.{Path}
use Rattle.ccr_pipeline.specs.Keys.{path_below, path_at}
use Rattle.ccr_pipeline.specs.Tree.{Text}
use Rattle.ccr_findings.specs.declared.finding.Kind.TheVariants.{Vars}
use Rattle.ccr_findings.specs.Findings.{FindingData, finding}

-- a letter of a variable's name: a letter, a digit, or one of _ - . / : @ and "; beyond ASCII each counts as a letter
abbrev pub is_letter : ℕ → Bool
is_letter c =
    (nat_le 97 c && nat_le c 122) || ((nat_le 65 c && nat_le c 90) || ((nat_le 45 c && nat_le c 58)
    || (c == 95 || (c == 64 || (c == 34 || nat_le 128 c)))))

-- a letter is there, and is no -
abbrev pub is_no_dash : Option ℕ → Bool
is_no_dash None = false
is_no_dash (Some c) = not (c == 45)

-- letters neither begin nor end with a -, as the operand of -- does in arithmetic
abbrev pub is_free : Text → Bool
is_free name = is_no_dash (slice_get name 0) && is_no_dash (slice_get name (length name - 1))

-- THE NAME OF A VARIABLE: at least one letter, and no - at its ends
abbrev pub is_variable_name : Text → Bool
is_variable_name name = is_free name && list_all is_letter name

-- the last byte of those behind this one
abbrev pub last_byte : ℕ → Text → ℕ
last_byte c [] = c
last_byte c (d ∷ ds) = last_byte d ds

-- A TEXT HAS A VARIABLE: somewhere in it stands a name between (( and )), with no $ before it
abbrev pub HasVariable : Text → Type 0
HasVariable s =
    (before : Text) × (name : Text) × (after : Text) × IsTrue (not (last_byte 0 before == 36))
    × IsTrue (is_variable_name name) × (s ≡ before ++ (40 ∷ 40 ∷ (name ++ (41 ∷ 41 ∷ after))))

-- ---- how one is found
-- the letters that a text begins with
abbrev pub front_letters : Text → Text
front_letters [] = []
front_letters (c ∷ cs) = if is_letter c then c ∷ front_letters cs else []

-- what is behind them
abbrev pub behind_letters : Text → Text
behind_letters [] = []
behind_letters (c ∷ cs) = if is_letter c then behind_letters cs else c ∷ cs

-- a text begins with two of a byte
abbrev pub is_doubled : ℕ → Text → Bool
is_doubled b [] = false
is_doubled b (c ∷ []) = false
is_doubled b (c ∷ d ∷ cs) = c == b && d == b

-- a text begins with a name, and )) behind it
abbrev pub begins_named : Text → Bool
begins_named s = is_free (front_letters s) && is_doubled 41 (behind_letters s)

-- a text begins with a variable
abbrev pub begins_variable : Text → Bool
begins_variable s = is_doubled 40 s && begins_named (drop 2 s)

-- a text behind this byte has a variable
abbrev pub has_variable_behind : ℕ → Text → Bool
has_variable_behind last [] = false
has_variable_behind last (c ∷ cs) = (not (last == 36) && begins_variable (c ∷ cs)) || has_variable_behind c cs

-- a text has a variable
abbrev pub has_variable : Text → Bool
has_variable s = has_variable_behind 0 s

-- the finding of a text at a path
abbrev pub vars_at : Path → Text → List FindingData
vars_at p s = if has_variable s then finding Vars (codes "vars " ++ p) ∷ [] else []

abbrev mutual
  -- THE TEXTS IN A VALUE THAT HAVE VARIABLES, wherever they stand
  pub vars_in : Path → Data → List FindingData
  vars_in p null = []
  vars_in p (boolean b) = []
  vars_in p (number n) = []
  vars_in p (string s) = vars_at p s
  vars_in p (array ds) = vars_in_items p 0 ds
  vars_in p (object ms) = vars_in_members p ms

  -- those in the members of a list, from position i on
  pub vars_in_items : Path → ℕ → Items → List FindingData
  vars_in_items p i no_items = []
  vars_in_items p i (item d ds) = vars_in (path_at p i) d ++ vars_in_items p (i + 1) ds

  -- those in the members of an object
  pub vars_in_members : Path → Members → List FindingData
  vars_in_members p no_members = []
  vars_in_members p (member k d ms) = vars_in (path_below p k) d ++ vars_in_members p ms
