use Rattle.std.proofs.Common.{◌≡◌, ◌+◌, drop, map}
use Rattle.std.specs.List.{position_or_len}
use Rattle.std.specs.Str.{bytes_eq}
use Rattle.ccr_pipeline.specs.JobData.{JobData, job_data}
use Rattle.ccr_problem.proofs.indexes.job_position.Given as goal

abbrev pub invariant-loop-job : goal.invariant-loop-job
invariant-loop-job l = record {
  counted : l.position ≡ l.job-index;
  left : l.position + position_or_len (λ (j : JobData). bytes_eq l.name j.name) (map job_data (drop l.job-index l.jobs)) ≡ position_or_len (λ (j : JobData). bytes_eq l.name j.name) (map job_data l.jobs);
}
