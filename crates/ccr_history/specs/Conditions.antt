-- Tests of what the caller of a change owes.
use Rattle.std.specs.Prelude.{ℕ, List, [], ◌∷◌, length, Bool, true, not, ◌&&◌, ◌==◌}
use Rattle.std.specs.List.{list_any, list_all}
use Rattle.std.specs.Str.{bytes_eq}
use Rattle.ccr_history.specs.Tables.{TableData}
use Rattle.ccr_history.specs.Builds.{UsedData}
use Rattle.ccr_history.specs.Pairs.{is_same_pair}
use Rattle.ccr_history.specs.History.{has_place}

-- no element of the list is the same as a later one
abbrev pub are_apart : {X : Type 0} → (X → X → Bool) → List X → Bool
are_apart same [] = true
are_apart same (x ∷ xs) = not (list_any (same x) xs) && are_apart same xs

-- the two used places are of one input
abbrev pub is_same_input : UsedData → UsedData → Bool
is_same_input u v = bytes_eq u.input v.input

-- the used place is of an input with a name, and one of the tables
abbrev pub is_used_in : List TableData → UsedData → Bool
is_used_in tables u = not (length u.input == 0) && has_place tables u.scope u.place

-- a build may use these places
abbrev pub are_used : List TableData → List UsedData → Bool
are_used tables used = are_apart is_same_input used && list_all (is_used_in tables) used

-- a build may move these pairs
abbrev pub are_moved : List TableData → List (ℕ × ℕ) → Bool
are_moved tables moved = are_apart is_same_pair moved && list_all (λ p. has_place tables p.0 p.1) moved
