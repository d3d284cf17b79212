-- In which order places that ascend are looked at: the most preferred first.
use Rattle.std.specs.Prelude.{◌≡◌, ℕ, ◌+◌, ◌-◌, ◌<◌, ◌≤◌, List, length, slice_index, slice_index_or, nat_lt, Option, MatchOption, if◌then◌else◌}

-- The position of this rank among the positions below `to`: first those from `above` on, in ascending order, then the others, in
-- descending order.
abbrev pub ranked : ℕ → ℕ → ℕ → ℕ
ranked above to rank = if nat_lt rank (to - above) then above + rank else to - 1 - rank

-- Below `to`, the positions that count have ascending places; the last ones count from some position on, and all do from `above`
-- on. Those from `above` on have the places above the one that is kept; where none is kept, there are no such positions.
pub record AreRanked (after : Option ℕ) (place_at : ℕ → ℕ) (Counts : ℕ → Type 0) (above to : ℕ) : Type 0 where
  pub split : above ≤ to
  pub rising : (m n : ℕ) → m < n → n < to → Counts m → place_at m < place_at n
  pub last : (m n : ℕ) → m < n → n < to → Counts m → Counts n
  pub all_above : (m : ℕ) → above ≤ m → m < to → Counts m
  pub kept : MatchOption after (above ≡ to)
      (λ u. ((m : ℕ) → above ≤ m → m < to → u < place_at m) × ((m : ℕ) → m < above → Counts m → place_at m ≤ u))

-- The places of a scope among pairs.
pub record AreRankedIn (after : Option ℕ) (pairs : List (ℕ × ℕ)) (scope above to : ℕ) : Type 0 where
  pub within : to ≤ length pairs
  pub none_behind : (m : ℕ) → m < length pairs → (slice_index_or pairs m (0, 0)).0 ≡ scope → m < to
  pub ranks : AreRanked after (λ m. (slice_index_or pairs m (0, 0)).1) (λ m. (slice_index_or pairs m (0, 0)).0 ≡ scope) above to

-- All of these places.
abbrev pub AreRankedOf : Option ℕ → List ℕ → ℕ → ℕ → Type 0
AreRankedOf after places above to =
    (to ≡ length places) × AreRanked after (λ m. slice_index places m) (λ m. m < to) above to
