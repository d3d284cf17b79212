use Rattle.ccr_explain.proofs.Reducing.{GoesOn}
use Rattle.ccr_explain.proofs.witness.mark_needed.Given as goal

abbrev pub invariant-loop : goal.invariant-loop
invariant-loop l = GoesOn l.problem l.demands l.fn.is_needed.items l.is_needed.items
