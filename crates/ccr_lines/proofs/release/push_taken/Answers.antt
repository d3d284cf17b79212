use Rattle.std.proofs.Common.{string_bytes}
use Rattle.ccr_lines.specs.Releases.{took_line}
use Rattle.ccr_lines.proofs.Showing.{lines_more}
use Rattle.ccr_lines.proofs.release.push_taken.Goals as goal

pub loop-k-preserved : goal.loop-k-preserved
loop-k-preserved c =
    lines_more (λ u. took_line c.args.history.now.tables u) c.args.build.now.used c.loop-k.k _
    (string_bytes c.args.text.now) (string_bytes c.loop-k.text) (string_bytes c.push_place.new.text) c.used_at-scope.ensures
    c.loop-k.invariant c.in_ok-push_place.ensures
