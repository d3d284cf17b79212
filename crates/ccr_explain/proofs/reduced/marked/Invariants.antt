use Rattle.std.proofs.Common.{◌≡◌, ◌++◌, drop}
use Rattle.ccr_explain.specs.Reduced.{marked}
use Rattle.ccr_explain.proofs.reduced.marked.Given as goal

abbrev pub invariant-loop-k : goal.invariant-loop-k
invariant-loop-k l = l.some.items ++ marked (drop l.k l.demands) (drop l.k l.marks) ≡ marked l.demands l.marks
