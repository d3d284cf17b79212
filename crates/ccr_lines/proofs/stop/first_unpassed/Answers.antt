use Rattle.std.proofs.Common.{Some, sym, ◌∙◌, ap, map, find, string_bytes}
use Rattle.ccr_lines.specs.Stops.{is_unpassed}
use Rattle.ccr_lines.proofs.Stopping.{found_here, found_on}
use Rattle.ccr_lines.proofs.stop.first_unpassed.Goals as goal

pub returns-then-is_unpassed : goal.returns-then-is_unpassed
returns-then-is_unpassed c =
    let test = is_unpassed c.args.history.now c.args.pair in
    ap Some c.as_str-then-is_unpassed.ensures.value
    ∙ found_here test string_bytes c.args.jobs.now c.loop-job.job-index c.job-item.result
    (find test (map string_bytes c.args.jobs.now)) c.loop-job-test.true (sym c.job-item.is) c.loop-job.invariant
    (ap test (sym c.as_str.ensures.value) ∙ (sym c.is_unpassed.ensures ∙ c.if-is_unpassed.true))

pub loop-job-preserved : goal.loop-job-preserved
loop-job-preserved c =
    let test = is_unpassed c.args.history.now c.args.pair in
    found_on test string_bytes c.args.jobs.now c.loop-job.job-index c.job-item.result
    (find test (map string_bytes c.args.jobs.now)) c.loop-job-test.true (sym c.job-item.is) c.loop-job.invariant
    (ap test (sym c.as_str.ensures.value) ∙ (sym c.is_unpassed.ensures ∙ c.if-is_unpassed.false))
