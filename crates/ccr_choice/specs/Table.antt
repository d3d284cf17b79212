-- The table in which the checker keeps a partial assignment.
use Rattle.std.specs.Prelude.{ℕ, zero, suc, List, Option, None, slice_index, slice_get}
use Rattle.ccr_choice.specs.Problem.{ProblemValue, BuildValue, builds_at}
use Rattle.ccr_choice.specs.Assignment.{Assignment}

-- Entry j of the table is 0 where job j is free, and one more than the position of its fixed build among its successful
-- builds.
abbrev pub build_of : List BuildValue → ℕ → Option BuildValue
build_of builds zero = None
build_of builds (suc k) = slice_get builds k

-- The assignment that a table stands for.
abbrev pub assigned : ProblemValue → List ℕ → Assignment
assigned p table j = build_of (builds_at p j) (slice_index table j)
