use Rattle.std.proofs.Common.{◌≡◌, ◌++◌, [], codes}
use Rattle.serde_json.specs.View.{items_view}
use Rattle.ccr_history.proofs.Items.{left}
use Rattle.ccr_pipeline.specs.JobRules.{job_faults, members}
use Rattle.ccr_pipeline.specs.Places.{job_steps}
use Rattle.ccr_pipeline.specs.Unknown.{unknown_spots}
use Rattle.ccr_findings.proofs.find_job.find_jobs.Given as goal

abbrev pub invariant-loop-i : goal.invariant-loop-i
invariant-loop-i l = record {
  present : l.hunt.present ++ members job_faults l.names (codes "jobs") l.i (left l.i l.list) ≡ l.initial.hunt.present ++ members job_faults [] (codes "jobs") 0 (items_view l.list);
  unknown : l.hunt.unknown ++ unknown_spots l.initial.hunt.resources l.initial.hunt.jobs (job_steps l.i (left l.i l.list)) ≡ l.initial.hunt.unknown ++ unknown_spots l.initial.hunt.resources l.initial.hunt.jobs (job_steps 0 (items_view l.list));
  resources : l.hunt.resources ≡ l.initial.hunt.resources;
  jobs : l.hunt.jobs ≡ l.initial.hunt.jobs;
}
