use Rattle.std.proofs.Common.{◌≡◌, map, take}
use Rattle.ccr_pipeline.specs.JobData.{job_data}
use Rattle.ccr_pipeline.specs.Pipelines.{pipeline_data}
use Rattle.ccr_core.specs.Cores.{core_data}
use Rattle.ccr_lines.specs.Each.{AreEach}
use Rattle.ccr_overview.specs.Scenes.{told_data, IsTold}
use Rattle.ccr_overview.proofs.scene.each_told.Given as goal

abbrev pub invariant-loop-job : goal.invariant-loop-job
invariant-loop-job l = record {
  jobs : map job_data l.job-items ≡ (pipeline_data l.fn.pipeline).jobs;
  told : AreEach (IsTold (pipeline_data l.fn.pipeline) (core_data l.fn.core).history (core_data l.fn.core).budget) 0
      (map job_data (take l.job-index l.job-items)) (map told_data l.told.items);
}
