use Rattle.std.proofs.Common.{◌∙◌, ◌∷◌, [], sym, ap, map}
use Rattle.std.proofs.lemmas.List.{map-append}
use Rattle.ccr_pipeline.specs.JobData.{job_data}
use Rattle.ccr_pipeline.specs.Pipelines.{pipeline_data}
use Rattle.ccr_core.specs.Cores.{core_data}
use Rattle.ccr_lines.specs.Standing.{next_data}
use Rattle.ccr_lines.proofs.Listing.{next_told, job_there}
use Rattle.ccr_lines.proofs.standing.next_builds.Goals as goal

pub outlook_of-requires-clause-there : goal.outlook_of-requires-clause-there
outlook_of-requires-clause-there c =
    job_there c.jobs-job-items.result.now (map job_data c.args.pipeline.now.jobs.items) c.loop-job.job-index
    c.job-item.result c.loop-job.invariant.jobs c.loop-job-test.true (sym c.job-item.is)

pub loop-job-preserved : goal.loop-job-preserved
loop-job-preserved c =
    let held = core_data c.args.core.now in
    record {
      jobs = c.loop-job.invariant.jobs;
      told = next_told (pipeline_data c.args.pipeline.now) held.history held.budget c.jobs-job-items.result.now
          c.loop-job.job-index c.job-item.result c.in_ok-outlook.outlook (map next_data c.loop-job.next.items)
          (map next_data c.push.new.self.items) c.loop-job-test.true (sym c.job-item.is) c.loop-job.invariant.told
          c.in_ok-outlook.ensures
          (ap (λ ns. map next_data ns) c.in_ok-push.ensures.items ∙ map-append next_data c.loop-job.next.items _);
    }
