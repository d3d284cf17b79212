use Rattle.std.proofs.Common.{◌∙◌, [], sym, option_copied}
use Rattle.ccr_lines.specs.Listed.{asked_if}
use Rattle.ccr_lines.proofs.Showing.{lines_more}
use Rattle.ccr_lines.proofs.builds.builds_asked.Goals as goal

pub loop-k-preserved : goal.loop-k-preserved
loop-k-preserved c =
    lines_more (λ b. asked_if (option_copied c.args.job) b) c.args.history.now.builds c.loop-k.k c.unwrap-build.result []
    c.loop-k.builds.items c.push_asked.new.builds.items (sym c.build_at.ensures ∙ c.unwrap-build.ensures)
    c.loop-k.invariant c.in_ok-push_asked.ensures
