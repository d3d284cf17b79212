use Rattle.std.proofs.Common.{◌≤◌, ◌-◌, length}
use Rattle.ccr_explain.specs.Reduced.{IsReduced}
use Rattle.ccr_explain.proofs.reduced.gathered.Given as goal

abbrev pub invariant-loop-k : goal.invariant-loop-k
invariant-loop-k l = record {
  reduced : IsReduced l.problem l.budget l.now;
  fewer : length l.now.demands - l.now.next ≤ length l.initial.now.demands - l.initial.now.next;
}
