-- What a choice without a proof promises.
use Rattle.std.specs.Prelude.{◌≡◌, ℕ}
use Rattle.ccr_choice.specs.Problem.{ProblemValue}
use Rattle.ccr_choice.specs.Preference.{Preference}
use Rattle.ccr_choice.specs.Optimal.{IsOptimal, HasNoChoice}
use Rattle.ccr_resolve.specs.declared.chosen.Chosen.{Chosen}
use Rattle.ccr_resolve.specs.declared.chosen.Chosen.TheVariants.{Best, Nothing, OverBudget}
use Rattle.ccr_resolve.specs.NodeBound.{IsBelowNodeBound}

-- The best choice is optimal; nothing is chosen where no choice satisfies; over budget names the budget, which is below
-- the node bound.
abbrev pub IsChosen : Preference → ProblemValue → ℕ → Chosen → Type 0
IsChosen prefers p budget (Best c) = IsOptimal prefers p c.places c.builds
IsChosen prefers p budget Nothing = HasNoChoice p
IsChosen prefers p budget (OverBudget n) = (n ≡ budget) × IsBelowNodeBound prefers p budget
