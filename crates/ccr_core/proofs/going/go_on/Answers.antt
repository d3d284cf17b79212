use Rattle.std.proofs.Common.{sym, subst}
use Rattle.ccr_pipeline.specs.Pipelines.{pipeline_data}
use Rattle.ccr_steps.specs.Runs.{run_data}
use Rattle.ccr_core.specs.Endings.{EndFits, reports}
use Rattle.ccr_core.specs.Going.{named}
use Rattle.ccr_core.proofs.Answering.{more_so}
use Rattle.ccr_core.proofs.going.go_on.Goals as goal

pub settle-requires-clause-fits : goal.settle-requires-clause-fits
settle-requires-clause-fits c =
    let (taken, fits) = c.requires.fits in
    subst (λ h. EndFits (pipeline_data c.args.pipeline.now) h (run_data c.args.run.now)) (sym c.in_ok-reported.ensures.ok) (fits (taken c.in_ok-reported.ensures.fits))

pub returns-in-Ok-clause-edits : goal.returns-in-Ok-clause-edits
returns-in-Ok-clause-edits c = λ plan inputs es stands.
    more_so (pipeline_data c.args.pipeline.now) c.args.history.now c.append.new.history (reports c.args.report) c.in_ok-reported.reported c.in-Ok.edits.items c.with_report.result.items (named c.args.job.now c.args.number plan inputs es) c.in-Ok.outcome
    c.with_report.ensures c.in_ok-reported.ensures.edits c.in_ok-reported.ensures.ok (c.in-Ok.ensures.edits plan inputs es stands)
