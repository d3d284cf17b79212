-- What is found of jobs while all faults are looked for.
use Rattle.std.specs.Prelude.{List, ◌++◌}
use Rattle.std.specs.List.{flat_map}
use Rattle.serde_json.specs.Data.{Data}
use Rattle.ccr_findings.specs.declared.find_walk.Hunt.{Hunt}
use Rattle.ccr_pipeline.specs.Faults.{Path, Faults}
use Rattle.ccr_pipeline.specs.JobRules.{job_rest}
use Rattle.ccr_pipeline.specs.Places.{Spot, gets_at, plan_steps, job_hooks}
use Rattle.ccr_pipeline.specs.StepRules.{visits}
use Rattle.ccr_pipeline.specs.Tree.{Text}
use Rattle.ccr_pipeline.specs.Unknown.{unknown_spots}

-- what is found while jobs are walked over: the faults that are present, and, since they count after these, the names
-- that aren't there; the names of the job's gets so far, and those of all resources and jobs
pub record HuntData : Type 0 where
  pub present : Faults
  pub unknown : Faults
  pub gets : List Text
  pub resources : List Text
  pub jobs : List Text

-- what is found, without where it lies in memory
abbrev pub hunt_data : Hunt → HuntData
hunt_data h = record {
  present = h.present;
  unknown = h.unknown;
  gets = h.gets;
  resources = h.resources;
  jobs = h.jobs;
}

-- what is found after more visits of steps
unfoldable pub with_found : HuntData → List Spot → HuntData
with_found h xs = record {
  present = h.present ++ visits h.gets xs;
  unknown = h.unknown ++ unknown_spots h.resources h.jobs xs;
  gets = h.gets ++ flat_map gets_at xs;
  resources = h.resources;
  jobs = h.jobs;
}

-- what is found after a job's name: in the steps of its plan, in its other keys, in its hooks, and in the number of its
-- inputs and named jobs
unfoldable pub with_plan : HuntData → Path → Data → HuntData
with_plan h p d = record {
  present = h.present ++ job_rest p d;
  unknown = h.unknown ++ unknown_spots h.resources h.jobs (plan_steps p d ++ job_hooks p d);
  gets = flat_map gets_at (plan_steps p d ++ job_hooks p d);
  resources = h.resources;
  jobs = h.jobs;
}
