-- What a clash is, and what is answered about a problem.
use Rattle.std.specs.Prelude.{◌≡◌, ℕ, List, false, IsTrue, All}
use Rattle.ccr_choice.specs.Problem.{ProblemValue}
use Rattle.ccr_choice.specs.Preference.{Preference}
use Rattle.ccr_choice.specs.Optimal.{IsOptimal}
use Rattle.ccr_resolve.specs.NodeBound.{IsBelowNodeBound}
use Rattle.ccr_explain.specs.declared.demand.Demand.{Demand}
use Rattle.ccr_explain.specs.declared.explanation.Explanation.{Explanation}
use Rattle.ccr_explain.specs.declared.explanation.Explanation.TheVariants.{Clash, Fits, OverBudget}
use Rattle.ccr_explain.specs.Demand.{IsDemandOf, ExcludeEachOther, AreIrreducible}
use Rattle.ccr_explain.specs.ClashValue.{ClashValue}
use Rattle.ccr_explain.specs.Cut.{IsOver}

-- A clash of a problem: demands that the problem makes, and that exclude each other.
pub record IsClash (p : ProblemValue) (ds : List Demand) : Type 0 where
  pub demands : All (IsDemandOf p) ds
  pub exclude : ExcludeEachOther p ds

-- A clash that was found within a budget: it is irreducible where it says so, and it says nothing only where the budget didn't
-- suffice for a question that was asked.
pub record IsClashWithin (p : ProblemValue) (budget : ℕ) (c : ClashValue) : Type 0 where
  pub clash : IsClash p c.demands
  pub irreducible : IsTrue c.is_irreducible → AreIrreducible p c.demands
  pub perhaps_fewer : c.is_irreducible ≡ false → IsOver p budget

-- A clash is one of the problem; a choice that fits is optimal; over budget names the budget, which is below the node bound.
abbrev pub IsExplanation : Preference → ProblemValue → ℕ → Explanation → Type 0
IsExplanation prefers p budget (Clash c) = IsClashWithin p budget c
IsExplanation prefers p budget (Fits c) = IsOptimal prefers p c.places c.builds
IsExplanation prefers p budget (OverBudget n) = (n ≡ budget) × IsBelowNodeBound prefers p budget
