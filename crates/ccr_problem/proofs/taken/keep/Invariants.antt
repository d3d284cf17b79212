use Rattle.std.proofs.Common.{◌≡◌, take}
use Rattle.ccr_problem.specs.Passing.{with_taken}
use Rattle.ccr_problem.proofs.taken.keep.Given as goal

abbrev pub invariant-loop-i : goal.invariant-loop-i
invariant-loop-i l = record {
  so_far : l.index.problem ≡ with_taken l.initial.index.problem (take l.i l.taken);
  pairs : l.index.spare_pairs ≡ l.initial.index.spare_pairs;
}
