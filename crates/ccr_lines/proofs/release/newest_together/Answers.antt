use Rattle.std.proofs.Common.{◌∙◌, sym}
use Rattle.ccr_lines.proofs.GoneTogether.{newest_told}
use Rattle.ccr_lines.proofs.release.newest_together.Goals as goal

pub loop-k-preserved : goal.loop-k-preserved
loop-k-preserved c =
    newest_told c.args.job.now c.args.pairs.now c.args.history.now.builds c.loop-k.k c.unwrap-build.result c.loop-k.newest
    c.newer-newest.result (sym c.build_at.ensures ∙ c.unwrap-build.ensures) c.loop-k.invariant c.newer-newest.ensures
