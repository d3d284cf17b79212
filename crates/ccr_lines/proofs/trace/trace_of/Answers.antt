use Rattle.std.proofs.Common.{◌++◌, ◌∙◌, [], sym, ap}
use Rattle.ccr_lines.specs.Traces.{went, went_if}
use Rattle.ccr_lines.proofs.Showing.{lines_more}
use Rattle.ccr_lines.proofs.trace.trace_of.Goals as goal

pub loop-k-preserved : goal.loop-k-preserved
loop-k-preserved c =
    lines_more (λ b. went_if (went c.args.history.now.tables c.args.resource.now c.args.pin.now b))
    c.args.history.now.builds c.loop-k.k c.unwrap-build.result [] c.loop-k.trace.items c.push_if.new.trace.items
    (sym c.build_at.ensures ∙ c.unwrap-build.ensures) c.loop-k.invariant
    (c.in_ok-push_if.ensures ∙ ap (λ w. c.loop-k.trace.items ++ went_if w) c.went_in.ensures)
