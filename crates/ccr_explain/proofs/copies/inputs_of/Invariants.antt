use Rattle.std.proofs.Common.{◌≡◌, take}
use Rattle.ccr_explain.proofs.copies.inputs_of.Given as goal

abbrev pub invariant-loop-input : goal.invariant-loop-input
invariant-loop-input l = l.copies.items ≡ take l.input l.index.problem.inputs
