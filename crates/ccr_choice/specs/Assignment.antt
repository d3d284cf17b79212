-- Partial assignments of builds to named jobs.
use Rattle.std.specs.Prelude.{◌≡◌, ℕ, List, ◌==◌, Option, Some, None, slice_index, if◌then◌else◌}
use Rattle.ccr_choice.specs.Problem.{BuildValue}

-- A partial assignment: to each job the build that is fixed for it, or None where the job is free.
abbrev pub Assignment : Type 0
Assignment = ℕ → Option BuildValue

-- No job has a fixed build.
abbrev pub nothing_fixed : Assignment
nothing_fixed j = None

-- The same assignment, but for job j, for which this build is fixed.
abbrev pub with_build : Assignment → ℕ → BuildValue → Assignment
with_build a j b k = if k == j then Some b else a k

-- The builds of a choice agree with an assignment if those of the jobs with a fixed build are these.
abbrev pub Agrees : Assignment → List ℕ → Type 0
Agrees a builds = (j : ℕ) (b : BuildValue) → a j ≡ Some b → slice_index builds j ≡ b.number
