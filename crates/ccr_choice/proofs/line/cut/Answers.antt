use Rattle.std.proofs.Common.{arith}
use Rattle.ccr_choice.proofs.Cuts.{cut_none, cut_here}
use Rattle.ccr_choice.proofs.line.cut.Goals as goal

pub returns-then-b-separator-clause-cut : goal.returns-then-b-separator-clause-cut
returns-then-b-separator-clause-cut c = cut_here c.args.separator c.args.bytes.now c.loop-end.end c.loop-end-test.true c.loop-end.invariant c.if-b-separator.true

pub returns-clause-cut : goal.returns-clause-cut
returns-clause-cut c = cut_none c.args.separator c.args.bytes.now (λ k h. c.loop-end.invariant k (omega arith))
