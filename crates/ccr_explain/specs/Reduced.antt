-- Demands that exclude each other, of which one after the other is left out. No public contract names these.
use Rattle.std.specs.Prelude.{◌≡◌, ℕ, ◌<◌, List, [], ◌∷◌, length, remove, slice_index_or, Bool, false, if◌then◌else◌, IsTrue}
use Rattle.ccr_choice.specs.Problem.{ProblemValue}
use Rattle.ccr_explain.specs.declared.demand.Demand.{Demand}
use Rattle.ccr_explain.specs.Demand.{CanBeMet}
use Rattle.ccr_explain.specs.Clash.{IsClash}
use Rattle.ccr_explain.specs.Cut.{IsOver}

-- Demands, which of them are known to be needed, how many were tried, and whether all of these are needed.
pub record ReductionValue : Type 0 where
  pub demands : List Demand
  pub is_needed : List Bool
  pub next : ℕ
  pub is_irreducible : Bool

-- For each demand that has a mark, some choice meets all others.
abbrev pub AreNeeded : ProblemValue → List Demand → List Bool → Type 0
AreNeeded p ds marks = (m : ℕ) → m < length ds → IsTrue (slice_index_or marks m false) → CanBeMet p (remove ds m)

-- Those of these demands that have a mark.
abbrev pub marked : List Demand → List Bool → List Demand
marked [] marks = []
marked (d ∷ ds) [] = []
marked (d ∷ ds) (mark ∷ marks) = if mark then d ∷ marked ds marks else marked ds marks

-- The demands clash; those that have a mark are needed, and those that were tried, unless the budget stopped it.
pub record IsReduced (p : ProblemValue) (budget : ℕ) (r : ReductionValue) : Type 0 where
  pub clash : IsClash p r.demands
  pub long : length r.is_needed ≡ length r.demands
  pub needed : AreNeeded p r.demands r.is_needed
  pub tried : IsTrue r.is_irreducible → (m : ℕ) → m < r.next → m < length r.demands → CanBeMet p (remove r.demands m)
  pub perhaps : r.is_irreducible ≡ false → IsOver p budget
