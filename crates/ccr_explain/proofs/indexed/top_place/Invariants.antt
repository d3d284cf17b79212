use Rattle.std.proofs.Common.{◌≤◌, take, All}
use Rattle.ccr_explain.proofs.indexed.top_place.Given as goal

abbrev pub invariant-loop-job : goal.invariant-loop-job
invariant-loop-job l = record {
  least : 1 ≤ l.top;
  most : l.top ≤ 100000;
  covers : All (λ builds. All (λ b. All (λ q. q.1 ≤ l.top) b.pairs) builds) (take l.job l.index.problem.jobs);
}
