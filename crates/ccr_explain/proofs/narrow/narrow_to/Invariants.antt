use Rattle.ccr_explain.specs.Cut.{IsNarrowed}
use Rattle.ccr_explain.proofs.narrow.narrow_to.Given as goal

abbrev pub invariant-loop-i : goal.invariant-loop-i
invariant-loop-i l = IsNarrowed l.problem l.order l.initial.inputs.items l.inputs.items
