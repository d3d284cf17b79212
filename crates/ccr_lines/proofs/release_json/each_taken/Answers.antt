use Rattle.std.proofs.Common.{[]}
use Rattle.ccr_lines.specs.Json.{after_comma}
use Rattle.ccr_lines.specs.ReleaseJson.{took_json}
use Rattle.ccr_lines.proofs.Showing.{lines_more}
use Rattle.ccr_lines.proofs.release_json.each_taken.Goals as goal

pub loop-k-preserved : goal.loop-k-preserved
loop-k-preserved c =
    lines_more (λ u. after_comma (took_json c.args.history.now.tables u)) c.args.build.now.used c.loop-k.k _ []
    c.loop-k.out.items c.push_took.new.out.items c.used_at-scope.ensures c.loop-k.invariant c.in_ok-push_took.ensures
