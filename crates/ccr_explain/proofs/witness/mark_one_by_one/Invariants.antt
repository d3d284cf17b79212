use Rattle.ccr_explain.proofs.Reducing.{GoesOn}
use Rattle.ccr_explain.proofs.witness.mark_one_by_one.Given as goal

abbrev pub invariant-loop-k : goal.invariant-loop-k
invariant-loop-k l = GoesOn l.problem l.demands l.fn.is_needed.items l.is_needed.items
