-- The node bound of a problem: how many nodes a proof about it may need at the most.
use Rattle.std.specs.Prelude.{ℕ, ◌+◌, ◌*◌, ◌<◌, List, [], ◌∷◌, length}
use Rattle.ccr_choice.specs.Problem.{ProblemValue, BuildValue}
use Rattle.ccr_choice.specs.Satisfies.{Satisfies}
use Rattle.ccr_choice.specs.Preference.{Preference}
use Rattle.ccr_choice.specs.Assignment.{nothing_fixed}
use Rattle.ccr_choice.specs.Possible.{AreBestPlaces}
use Rattle.ccr_proof.specs.Refutes.{HasNoPlace}
use Rattle.ccr_resolve.specs.Kinds.{kinds_bound}

-- The number of all successful builds of the named jobs.
abbrev pub total : List (List BuildValue) → ℕ
total [] = 0
total (job ∷ jobs) = length job + total jobs

-- The product, over the named jobs, of one plus the number of successful builds.
abbrev pub product : List (List BuildValue) → ℕ
product [] = 1
product (job ∷ jobs) = (1 + length job) * product jobs

-- The number of the newest of these builds, 0 where there is none.
abbrev pub newest_number : List BuildValue → ℕ
newest_number [] = 0
newest_number (b ∷ bs) = b.number

-- The newest successful build of each named job.
abbrev pub newest : List (List BuildValue) → List ℕ
newest [] = []
newest (job ∷ jobs) = newest_number job ∷ newest jobs

-- The best places where nothing is fixed make, with the newest build of each job, a choice that satisfies.
abbrev pub TopFits : Preference → ProblemValue → Type 0
TopFits prefers p = (top : List ℕ) × AreBestPlaces prefers p nothing_fixed top × Satisfies p top (newest p.jobs)

-- The bound is 1, where an input has no possible place; else one plus the number of all builds, where the best places
-- fit the newest builds; else the product, or the bound where builds that the inputs see as one are gone into once,
-- whichever is less. A number is below the bound where it is below each that applies.
pub record IsBelowNodeBound (prefers : Preference) (p : ProblemValue) (n : ℕ) : Type 0 where
  pub product : n < product p.jobs
  pub kinds : n < kinds_bound p
  pub fitting : TopFits prefers p → n < 1 + total p.jobs
  pub lacking : (i : ℕ) → HasNoPlace p nothing_fixed i → n < 1
