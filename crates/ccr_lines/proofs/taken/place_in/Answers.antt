use Rattle.ccr_lines.specs.BuildCertificates.{is_taken}
use Rattle.ccr_lines.proofs.Taking.{place_here, place_on}
use Rattle.ccr_lines.proofs.taken.place_in.Goals as goal

pub returns-then-is_taken : goal.returns-then-is_taken
returns-then-is_taken c =
    place_here (is_taken c.args.input.now c.args.scope) c.args.build.now.used c.loop-k.k _ c.is_taken.result
    c.used_at-at.ensures c.is_taken.ensures c.if-is_taken.true c.loop-k.invariant

pub loop-k-preserved : goal.loop-k-preserved
loop-k-preserved c =
    place_on (is_taken c.args.input.now c.args.scope) c.args.build.now.used c.loop-k.k _ c.is_taken.result
    c.used_at-at.ensures c.is_taken.ensures c.if-is_taken.false c.loop-k.invariant
