use Rattle.std.proofs.Common.{[], string_bytes}
use Rattle.ccr_lines.specs.Live.{live_words}
use Rattle.ccr_lines.proofs.Showing.{lines_more}
use Rattle.ccr_lines.proofs.live.words_of.Goals as goal

pub loop-k-preserved : goal.loop-k-preserved
loop-k-preserved c =
    lines_more (λ u. live_words c.args.history.now.tables u) c.args.build.now.used c.loop-k.k _ []
    (string_bytes c.loop-k.text) (string_bytes c.push_words.new.text) c.used_at-scope.ensures c.loop-k.invariant
    c.in_ok-push_words.ensures
