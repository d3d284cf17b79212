use Rattle.std.proofs.Common.{◌++◌}
use Rattle.ccr_lines.specs.Releases.{pairs_for}
use Rattle.ccr_lines.proofs.GoneTogether.{pairs_told}
use Rattle.ccr_lines.proofs.release.push_pairs_for.Goals as goal

pub loop-k-preserved : goal.loop-k-preserved
loop-k-preserved c =
    pairs_told c.args.input.now c.args.build.now.used c.loop-k.k _ c.loop-k.pairs.items c.push_if.new.pairs.items
    (c.args.pairs.now.items ++ pairs_for c.args.input.now c.args.build.now.used) c.eq.result c.used_at-scope.ensures
    c.eq.ensures c.in_ok-push_if.ensures c.loop-k.invariant
