use Rattle.std.proofs.Common.{◌≡◌, map, take}
use Rattle.ccr_index.proofs.build.inputs_of.Given as goal

abbrev pub invariant-loop-input : goal.invariant-loop-input
invariant-loop-input l = map (λ x. x.input) l.inputs.items ≡ take l.input-index l.problem.inputs
