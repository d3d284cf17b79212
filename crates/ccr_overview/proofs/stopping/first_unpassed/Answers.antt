use Rattle.std.proofs.Common.{Bool, sym, ◌∙◌, ap, find}
use Rattle.ccr_lines.specs.ExplainedData.{PassedData}
use Rattle.ccr_lines.specs.Stops.{is_unpassed}
use Rattle.ccr_overview.proofs.Going.{found_here, found_on}
use Rattle.ccr_overview.proofs.stopping.first_unpassed.Goals as goal

pub returns-then-is_unpassed : goal.returns-then-is_unpassed
returns-then-is_unpassed c =
    let test : PassedData → Bool = λ q. is_unpassed c.args.history.now c.args.pair q.job in
    found_here test c.args.jobs.now c.loop-job.job-index c.job-item.result (find test c.args.jobs.now) c.loop-job-test.true
    (sym c.job-item.is) c.loop-job.invariant
    (sym (ap (is_unpassed c.args.history.now c.args.pair) (c.as_str.ensures.value ∙ ap (λ q. q.job) c.job.view_is))
    ∙ (sym c.is_unpassed.ensures ∙ c.if-is_unpassed.true))

pub loop-job-preserved : goal.loop-job-preserved
loop-job-preserved c =
    let test : PassedData → Bool = λ q. is_unpassed c.args.history.now c.args.pair q.job in
    found_on test c.args.jobs.now c.loop-job.job-index c.job-item.result (find test c.args.jobs.now) c.loop-job-test.true
    (sym c.job-item.is) c.loop-job.invariant
    (sym (ap (is_unpassed c.args.history.now c.args.pair) (c.as_str.ensures.value ∙ ap (λ q. q.job) c.job.view_is))
    ∙ (sym c.is_unpassed.ensures ∙ c.if-is_unpassed.false))
