use Rattle.std.proofs.Common.{refl, ap, ◌∙◌}
use Rattle.ccr_history.specs.Edits.{row_of}
use Rattle.ccr_core.proofs.Rows.{cuts_so}
use Rattle.ccr_core.proofs.restarted.cuts.Goals as goal

pub loop-name-preserved : goal.loop-name-preserved
loop-name-preserved c =
    let so_far = c.loop-name.invariant in
    let it =
    cuts_so c.args.history.now c.args.names.now c.loop-name.name-index c.name-item.result c.loop-name.change.items c.push.new.self.items _ c.loop-name-test.true c.name-item.is
    c.in_ok-push.ensures.items so_far.cut (c.in_ok-from_str.ensures.ok ∙ c.as_str-job.ensures.value) refl refl c.new.ensures.items
    (c.row_of.ensures ∙ ap (λ y. row_of y c.name-item.result.1 c.args.history.now.builds) c.as_str-job.ensures.value) so_far.numbered in
    record { cut = it.0; numbered = it.1 }
