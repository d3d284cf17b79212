-- Where a text is cut into a problem's text and what is said of the problem.
use Rattle.std.specs.Prelude.{◌≡◌, ℕ, ◌-◌, ◌<◌, ◌≤◌, ◌⊎◌, List, length, drop, slice_index, Bool, ◌||◌, nat_eq, IsTrue, codes}
use Rattle.std.specs.List.{starts_with}

-- These bytes begin with `proof`, `best` or `none`, whatever follows.
unfoldable pub begins : List ℕ → Bool
begins bs = starts_with nat_eq bs (codes "proof") || (starts_with nat_eq bs (codes "best") || starts_with nat_eq bs (codes "none"))

-- A line starts at place n: it is the first place, or the one behind a line feed.
abbrev pub IsLineStart : List ℕ → ℕ → Type 0
IsLineStart bs n = (n ≡ 0) ⊎ ((0 < n) × (slice_index bs (n - 1) ≡ 10))

-- A proof or a claim may start at place n: a line starts there, and its bytes begin so.
abbrev pub IsMark : List ℕ → ℕ → Type 0
IsMark bs n = IsLineStart bs n × IsTrue (begins (drop n bs))

-- The second part starts at the first line that begins so; where there is no such line, it is empty.
pub record IsCut (bs : List ℕ) (n : ℕ) : Type 0 where
  pub within : n ≤ length bs
  pub before : (k : ℕ) → k < n → ¬ IsMark bs k
  pub here : n < length bs → IsMark bs n
