-- What a pipeline keeps.
use Rattle.std.proofs.Common.{List, [], ◌∷◌, Option, Some, None, map, option_map}
use Rattle.std.specs.Prelude.{unwrap_or}
use Rattle.std.specs.List.{AllByRecursion}
use Rattle.std.proofs.lemmas.List.Elements.{All-from_recursion}
use Rattle.ccr_pipeline.specs.JobData.{job_data}
use Rattle.ccr_pipeline.specs.Limits.{IsPlan}
use Rattle.ccr_pipeline.specs.Links.{IsLinked}
use Rattle.ccr_pipeline.specs.Pipelines.{pipeline_data}
use Rattle.ccr_pipeline.specs.declared.pipeline.Pipeline.{Pipeline}
use Rattle.ccr_pipeline.specs.declared.resource.Job.{Job}
use Rattle.ccr_core.specs.Kept.{IsPipeline}
use Rattle.ccr_core.specs.State.{no_pipeline}

plans_kept : (js : List Job) → AllByRecursion (λ j. IsPlan j.plan) (map job_data js)
plans_kept [] = tt
plans_kept (j ∷ js) = (record { few = j.few; distinct = j.distinct; shallow = j.shallow; few_tries = j.few_tries; well_named = j.well_named }, plans_kept js)

-- each pipeline was read
pub pipeline_kept : (p : Pipeline) → IsPipeline (pipeline_data p)
pipeline_kept p = record {
  plans = All-from_recursion (λ j. IsPlan j.plan) (map job_data p.jobs.items) (plans_kept p.jobs.items);
  linked = p.linked;
}

pub option_kept : (o : Option Pipeline) → IsPipeline (unwrap_or (option_map pipeline_data o) no_pipeline)
option_kept None = record { plans = All-from_recursion (λ j. IsPlan j.plan) [] tt; linked = All-from_recursion (λ j. IsLinked [] [] j.plan) [] tt }
option_kept (Some p) = pipeline_kept p
