use Rattle.std.proofs.Common.{◌∙◌, ◌∷◌, [], refl, sym, ap, map}
use Rattle.std.proofs.lemmas.List.{map-append}
use Rattle.ccr_pipeline.specs.JobData.{job_data}
use Rattle.ccr_pipeline.specs.Pipelines.{pipeline_data}
use Rattle.ccr_core.specs.Cores.{core_data}
use Rattle.ccr_overview.specs.Scenes.{told_data, IsTold}
use Rattle.ccr_overview.proofs.Telling.{job_there, each_told}
use Rattle.ccr_overview.proofs.scene.each_told.Goals as goal

pub explained_in-requires-clause-there : goal.explained_in-requires-clause-there
explained_in-requires-clause-there c =
    job_there c.jobs-job-items.result.now (map job_data c.args.pipeline.now.jobs.items) c.loop-job.job-index
    c.job-item.result c.loop-job.invariant.jobs c.args.pipeline.now.distinct_jobs c.loop-job-test.true (sym c.job-item.is)

pub loop-job-preserved : goal.loop-job-preserved
loop-job-preserved c =
    let held = core_data c.args.core.now in
    record {
      jobs = c.loop-job.invariant.jobs;
      told = each_told (IsTold (pipeline_data c.args.pipeline.now) held.history held.budget) job_data c.jobs-job-items.result.now
          c.loop-job.job-index c.job-item.result (map told_data c.loop-job.told.items)
          (record { job = job_data c.job-item.result; explained = c.in_ok-explained.explained } ∷ [])
          (map told_data c.push.new.self.items) c.loop-job-test.true (sym c.job-item.is) c.loop-job.invariant.told
          (c.in_ok-explained.explained, c.in_ok-explained.ensures, refl)
          (ap (map told_data) c.in_ok-push.ensures.items ∙ map-append told_data c.loop-job.told.items _);
    }
