use Rattle.std.proofs.Common.{ap, sym, ◌∙◌, subst}
use Rattle.ccr_history.specs.Changes.{changed, AdmitsAll}
use Rattle.ccr_pipeline.specs.Pipelines.{pipeline_data}
use Rattle.ccr_steps.specs.Runs.{run_data}
use Rattle.ccr_core.proofs.Answering.{settles_so, pairs_fit, end_taken}
use Rattle.ccr_core.proofs.Rows.{changes_so}
use Rattle.ccr_core.proofs.going.settle.Goals as goal

pub follow-requires-clause-fits : goal.follow-requires-clause-fits
follow-requires-clause-fits c =
    pairs_fit (pipeline_data c.args.pipeline.now) c.args.history.now (run_data c.args.run.now) c.in_ok-outcome.field-0.outcome c.in_ok-outcome.field-0.pairs.items c.requires.fits c.in_ok-outcome.ensures.stands

pub returns-clause-settled : goal.returns-clause-settled
returns-clause-settled c = λ plan inputs es stands.
    settles_so (pipeline_data c.args.pipeline.now) c.args.history.now c.args.job.now c.args.number plan inputs es c.in_ok-outcome.field-0.outcome c.in_ok-outcome.field-0.pairs.items c.follow.new.history (c.in_ok-outcome.ensures.stands plan inputs es stands) c.in_ok-follow.ensures.ok

pub returns-clause-change : goal.returns-clause-change
returns-clause-change c =
    let h = c.args.history.now in
    let fits = pairs_fit (pipeline_data c.args.pipeline.now) c.args.history.now (run_data c.args.run.now) c.in_ok-outcome.field-0.outcome c.in_ok-outcome.field-0.pairs.items c.requires.fits c.in_ok-outcome.ensures.stands in
    changes_so c.in_ok-outcome.field-0.edits.items h c.follow.new.history (
      subst (AdmitsAll h) (sym c.in_ok-outcome.ensures.edits) (end_taken h c.args.job.now c.args.number c.in_ok-outcome.field-0.outcome c.in_ok-outcome.field-0.pairs.items c.requires.running fits),
      ap (λ l. changed l h) c.in_ok-outcome.ensures.edits ∙ sym c.in_ok-follow.ensures.ok,
    )
    (c.in_ok-outcome.ensures.numbered h c.row_of-row.ensures)

pub returns-clause-edits : goal.returns-clause-edits
returns-clause-edits c = λ plan inputs es stands.
    (c.in_ok-outcome.field-0.pairs.items, c.in_ok-outcome.ensures.stands plan inputs es stands, c.in_ok-outcome.ensures.edits)
