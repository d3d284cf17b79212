-- Which places are preferred: an order that the other definitions take as a parameter, and the one of each problem.
use Rattle.std.specs.Prelude.{◌≡◌, ◌≢◌, ℕ, ◌<◌, ◌⊎◌, List, length, slice_index, Option, Some, None, Bool, true, false, ◌||◌, nat_lt, nat_le, IsTrue, Contains, if◌then◌else◌}
use Rattle.ccr_choice.specs.Problem.{ProblemValue, input_at}

-- A preference says of each input, by its position in the plan, whether the first of two places is preferred to the
-- second.
abbrev pub Preference : Type 0
Preference = ℕ → ℕ → ℕ → Bool

-- Where no place is kept of an earlier build, the greater place is preferred. Where one is, the places above it come
-- first, in ascending order, and then those up to it, in descending order.
abbrev pub prefers_after : Option ℕ → ℕ → ℕ → Bool
prefers_after None x y = nat_lt y x
prefers_after (Some u) x y = if nat_lt u x then nat_lt x y || nat_le y u else nat_lt y x

-- The order in which the places of a problem are preferred: at each input by the place that is kept for it.
abbrev pub order_of : ProblemValue → Preference
order_of p i = prefers_after (input_at p i).after

-- A preference is an order: no place is preferred to itself, what is preferred to a preferred place is preferred, and
-- of two different places one is preferred.
pub record IsOrder (prefers : Preference) : Type 0 where
  pub irreflexive : (i x : ℕ) → prefers i x x ≡ false
  pub transitive : (i x y z : ℕ) → prefers i x y ≡ true → prefers i y z ≡ true → prefers i x z ≡ true
  pub total : (i x y : ℕ) → x ≢ y → (prefers i x y ≡ true) ⊎ (prefers i y x ≡ true)

-- The most preferred of some places is one of them, and none of them is preferred to it.
pub record IsMostPreferred (prefers : ℕ → ℕ → Bool) (places : List ℕ) (place : ℕ) : Type 0 where
  pub among : Contains places place
  pub none_before : (other : ℕ) → Contains places other → ¬ IsTrue (prefers other place)

-- A list of places is better than another if, at the first position where they differ, as far as both go, its place is
-- preferred.
pub record IsBetter (prefers : Preference) (places others : List ℕ) : Type 0 where
  pub first : ℕ
  pub within : first < length places
  pub reached : first < length others
  pub same_before : (k : ℕ) → k < first → slice_index places k ≡ slice_index others k
  pub preferred : IsTrue (prefers first (slice_index places first) (slice_index others first))
