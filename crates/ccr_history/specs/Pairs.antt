-- Pairs of scope and place, each once, by scope and then by place.
use Rattle.std.specs.Prelude.{ℕ, List, filter, not, Bool, ◌&&◌, ◌==◌, if◌then◌else◌, IsTrue, AllPairs}
use Rattle.std.specs.List.{list_any}
use Rattle.ccr_history.specs.Builds.{is_before, with_moved}

-- the two pairs are one
abbrev pub is_same_pair : ℕ × ℕ → ℕ × ℕ → Bool
is_same_pair p q = p.0 == q.0 && p.1 == q.1

-- the pair is among these
abbrev pub has_pair : ℕ × ℕ → List (ℕ × ℕ) → Bool
has_pair p pairs = list_any (is_same_pair p) pairs

-- each pair stands before those that are greater, by scope and then by place
abbrev pub ArePairs : List (ℕ × ℕ) → Type 0
ArePairs pairs = AllPairs (λ p q. IsTrue (is_before p q)) pairs

-- the pairs with this one where it belongs; nothing changes where it is there
abbrev pub with_pair : ℕ × ℕ → List (ℕ × ℕ) → List (ℕ × ℕ)
with_pair p pairs = if has_pair p pairs then pairs else with_moved p pairs

-- the pairs without this one
abbrev pub without_pair : ℕ × ℕ → List (ℕ × ℕ) → List (ℕ × ℕ)
without_pair p pairs = filter (λ q. not (is_same_pair p q)) pairs
