-- Lists in which one can look something up without reading all of it.
use Rattle.std.specs.Prelude.{ℕ, List, Option, Some, None, Bool, ◌||◌, ◌&&◌, ◌==◌, nat_lt, nat_le, IsTrue, AllPairs}

-- By scope, and then by place, the first pair stands before the second.
abbrev pub is_before : ℕ × ℕ → ℕ × ℕ → Bool
is_before p q = nat_lt p.0 q.0 || (p.0 == q.0 && nat_lt p.1 q.1)

-- Each pair stands before the later ones.
abbrev pub AreAscending : List (ℕ × ℕ) → Type 0
AreAscending pairs = AllPairs (λ p q. IsTrue (is_before p q)) pairs

-- A pair is of an earlier scope, or of this one with a place up to the one that is kept; where none is kept, with any
-- place.
abbrev pub is_up_to : Option ℕ → ℕ → ℕ × ℕ → Bool
is_up_to None scope q = nat_le q.0 scope
is_up_to (Some kept) scope q = nat_lt q.0 scope || (q.0 == scope && nat_le q.1 kept)

-- Each place is less than the later ones.
abbrev pub AreRising : List ℕ → Type 0
AreRising places = AllPairs (λ x y. IsTrue (nat_lt x y)) places
