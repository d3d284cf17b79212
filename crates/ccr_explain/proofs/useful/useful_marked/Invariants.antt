use Rattle.std.proofs.Common.{take}
use Rattle.ccr_explain.specs.Cut.{is_of_use, AreThose}
use Rattle.ccr_explain.proofs.useful.useful_marked.Given as goal

abbrev pub invariant-loop-k : goal.invariant-loop-k
invariant-loop-k l = AreThose (is_of_use l.inputs l.job) l.rows.builds (take l.k l.rows.builds) l.useful.items
