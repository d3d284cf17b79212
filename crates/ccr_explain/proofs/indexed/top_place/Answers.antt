use Rattle.std.proofs.Common.{arith}
use Rattle.std.proofs.lemmas.List.Elements.{All-weaker}
use Rattle.ccr_choice.proofs.Bounds.{builds_kept}
use Rattle.ccr_index.proofs.TopLaws.{Below, weaker}
use Rattle.ccr_explain.proofs.Steps.{all_taken, jobs_more, kept_places}
use Rattle.std.specs.Prelude.{All}
use Rattle.ccr_explain.proofs.indexed.top_place.Goals as goal

pub loop-job-preserved : goal.loop-job-preserved
loop-job-preserved c =
    let rows = c.rows.result.now.builds in
    let is = c.top_place.ensures in
    let few = is.least 100000 (kept_places _ rows (builds_kept c.args.index.now.problem c.loop-job.job rows c.job_count-job-end.ensures.kept
    (omega (arith, c.loop-job-test.true, c.job_count-job-end.ensures.value)) c.rows.ensures.value)) in
    record {
      least = omega (arith, c.max-top.ensures, c.loop-job.invariant.least);
      most = omega (arith, c.max-top.ensures, c.loop-job.invariant.most, few);
      covers = jobs_more c.args.index.now.problem.jobs c.loop-job.job c.loop-job.top c.max-top.result rows
          (omega arith) (omega (arith, c.max-top.ensures)) c.rows.ensures.value
          (All-weaker (Below c.top_place.result) (Below c.max-top.result) (weaker c.top_place.result c.max-top.result (omega (arith, c.max-top.ensures))) rows is.covers)
          c.loop-job.invariant.covers;
    }

pub returns : goal.returns
returns c = record {
  least = c.loop-job.invariant.least;
  most = c.loop-job.invariant.most;
  covers = all_taken (λ bs. All (Below c.loop-job.top) bs) c.args.index.now.problem.jobs c.loop-job.job (omega arith) c.loop-job.invariant.covers;
}
