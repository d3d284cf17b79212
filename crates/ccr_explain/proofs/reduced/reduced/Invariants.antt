use Rattle.std.proofs.Common.{◌≤◌, ◌+◌, ◌-◌, length}
use Rattle.ccr_explain.specs.Reduced.{IsReduced}
use Rattle.ccr_explain.proofs.reduced.reduced.Given as goal

abbrev pub invariant-loop : goal.invariant-loop
invariant-loop l = record {
  reduced : IsReduced l.problem l.budget l.reduction;
  fewer : length l.reduction.demands - l.reduction.next + l.counter ≤ l.count;
}
