use Rattle.std.proofs.Common.{arith, sym}
use Rattle.ccr_run.proofs.Searching.{goes_on}
use Rattle.ccr_run.proofs.advice.has_words.Goals as goal

pub loop-at-preserved : goal.loop-at-preserved
loop-at-preserved c =
    goes_on c.args.words.now c.as_bytes.result.now c.args.text.now c.loop-at.at (omega arith) c.loop-at.invariant
    c.as_bytes.ensures.value (sym c.if-starts_with.ensures.value)
