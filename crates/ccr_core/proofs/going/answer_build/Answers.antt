use Rattle.ccr_history.specs.Edits.{change_data}
use Rattle.ccr_pipeline.specs.Pipelines.{pipeline_data}
use Rattle.ccr_steps.specs.Asks.{answer_data}
use Rattle.ccr_steps.specs.Runs.{run_data}
use Rattle.ccr_core.proofs.Answering.{report_fits, goes_on, is_refused, next_so}
use Rattle.ccr_core.proofs.going.answer_build.Goals as goal

pub go_on-requires-clause-fits : goal.go_on-requires-clause-fits
go_on-requires-clause-fits c =
    report_fits (pipeline_data c.args.pipeline.now) c.args.history.now (run_data c.args.run.now) (run_data c.feed_back.new.self) c.args.job.now c.args.number (answer_data c.args.answer) c.wants.result c.unwrap-ask.result c.in_ok-report.report
    c.requires.can c.unwrap-ask.ensures c.wants.ensures.next c.rules_of.ensures c.in_ok-report.ensures c.in-Ok.ensures.fed

pub returns-in-Ok-go_on-clause-on : goal.returns-in-Ok-go_on-clause-on
returns-in-Ok-go_on-clause-on c =
    goes_on (pipeline_data c.args.pipeline.now) c.args.history.now c.go_on.new.history (run_data c.args.run.now) (run_data c.feed_back.new.self) c.args.job.now c.args.number (answer_data c.args.answer) c.in-Ok-go_on.gone.0 c.wants.result c.unwrap-ask.result c.in_ok-report.report
    c.unwrap-ask.ensures c.wants.ensures.next c.in_ok-report.ensures c.in-Ok.ensures.fed c.in-Ok-go_on.ensures.settled c.in-Ok-go_on.ensures.room

pub returns-in-Err-go_on-clause-refused : goal.returns-in-Err-go_on-clause-refused
returns-in-Err-go_on-clause-refused c =
    is_refused (pipeline_data c.args.pipeline.now) c.args.history.now (run_data c.args.run.now) (answer_data c.args.answer) c.wants.result c.unwrap-ask.result c.in_ok-report.report c.in-Err-go_on.fault
    c.unwrap-ask.ensures c.wants.ensures.next c.in_ok-report.ensures c.in-Err-go_on.ensures.refused

pub returns-in-Ok-go_on-clause-edits : goal.returns-in-Ok-go_on-clause-edits
returns-in-Ok-go_on-clause-edits c =
    next_so (pipeline_data c.args.pipeline.now) c.args.history.now (run_data c.args.run.now) (run_data c.feed_back.new.self) c.args.job.now c.args.number (answer_data c.args.answer) c.in-Ok-go_on.gone.0 c.wants.result c.unwrap-ask.result c.in_ok-report.report
    (change_data c.in-Ok-go_on.gone.1.items) c.unwrap-ask.ensures c.wants.ensures.next c.in_ok-report.ensures c.in-Ok.ensures.fed c.in-Ok-go_on.ensures.edits
