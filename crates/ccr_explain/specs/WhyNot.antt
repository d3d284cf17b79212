-- Why an input doesn't take a place that is preferred to the one it has.
use Rattle.std.specs.Prelude.{◌≡◌, ℕ, ◌<◌, List, slice_index, Bool, true, not, nat_lt, ◌==◌, IsTrue, if◌then◌else◌}
use Rattle.ccr_choice.specs.Problem.{ProblemValue}
use Rattle.ccr_choice.specs.Satisfies.{Satisfies}
use Rattle.ccr_choice.specs.Preference.{Preference, order_of}
use Rattle.ccr_resolve.specs.NodeBound.{IsBelowNodeBound}
use Rattle.ccr_explain.specs.declared.explanation.Explanation.{Explanation}
use Rattle.ccr_explain.specs.declared.explanation.Explanation.TheVariants.{Clash, Fits, OverBudget}
use Rattle.ccr_explain.specs.Clash.{IsClashWithin}
pub use Rattle.ccr_explain.specs.Narrowed.{narrowed_from}

-- Other places and builds take a place at input i without an input before it getting worse: they satisfy the problem, and at
-- no input before i is its place in the choice preferred to the other.
pub record TakesPlace (prefers : Preference) (p : ProblemValue) (places : List ℕ) (i place : ℕ) (others their_builds : List ℕ) : Type 0 where
  pub satisfies : Satisfies p others their_builds
  pub taken : slice_index others i ≡ place
  pub none_worse : (k : ℕ) → k < i → ¬ IsTrue (prefers k (slice_index places k) (slice_index others k))

-- Input i can't take the place without an input before it getting worse.
abbrev pub CannotTake : Preference → ProblemValue → List ℕ → ℕ → ℕ → Type 0
CannotTake prefers p places i place =
    (others their_builds : List ℕ) → ¬ TakesPlace prefers p places i place others their_builds

-- ---- the question
-- Whether input k may take place x, where input i is to take a place: input i takes this place alone, an input before it
-- none that is worse than its place in the choice, and an input behind it whatever is allowed.
abbrev pub may_take : Preference → List ℕ → ℕ → ℕ → ℕ → ℕ → Bool
may_take prefers places i place k x =
    if nat_lt k i then not (prefers k (slice_index places k) x) else (if k == i then x == place else true)

-- The problem in which input i takes a place and no input before it gets worse.
abbrev pub asked : Preference → ProblemValue → List ℕ → ℕ → ℕ → ProblemValue
asked prefers p places i place = record p { inputs = narrowed_from (may_take prefers places i place) 0 p.inputs }

-- A clash shows that the place can't be taken: it is one of the problem in which it is, so there is no such choice. A choice
-- that fits takes the place. Over budget names the budget, which is below the node bound of the problem in which it is.
abbrev pub IsWhyNot : Preference → ProblemValue → List ℕ → ℕ → ℕ → ℕ → Explanation → Type 0
IsWhyNot prefers p places i place budget (Clash c) =
    CannotTake prefers p places i place × IsClashWithin (asked prefers p places i place) budget c
IsWhyNot prefers p places i place budget (Fits c) = TakesPlace prefers p places i place c.places c.builds
IsWhyNot prefers p places i place budget (OverBudget n) =
    let q = asked prefers p places i place in (n ≡ budget) × IsBelowNodeBound (order_of q) q budget
