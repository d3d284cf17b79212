use Rattle.std.proofs.Common.{arith}
use Rattle.ccr_explain.proofs.Steps.{asked_at_last}
use Rattle.ccr_explain.proofs.why.narrowed.Goals as goal

pub returns-clause-rules : goal.returns-clause-rules
returns-clause-rules c =
    asked_at_last c.args.index.now.problem c.args.places.now c.args.input c.args.place c.loop-k.k c.loop-k.inputs.items c.input_count-k-end.ensures.kept
    (omega (arith, c.loop-k-test.false, c.input_count-k-end.ensures.value)) c.loop-k.invariant
