-- Where the first fault of a pipeline breaks a rule of limits, the visits of a job's steps do so first.
use Rattle.std.proofs.Common.{ℕ, ◌+◌, List, [], ◌∷◌, ◌++◌, codes}
use Rattle.std.specs.List.{AllByRecursion, flat_map}
use Rattle.serde_json.specs.Data.{Data, Items, no_items, item}
use Rattle.ccr_pipeline.specs.declared.fault.Rule.{Rule}
use Rattle.ccr_pipeline.specs.declared.fault.Rule.TheVariants as rule
use Rattle.ccr_pipeline.specs.declared.schema.Schema.TheVariants as schema
use Rattle.ccr_pipeline.specs.Breaches.{SomeItem}
use Rattle.ccr_pipeline.specs.Faults.{Path}
use Rattle.ccr_pipeline.specs.Inputs.{inputs, are_few}
use Rattle.ccr_pipeline.specs.JobRules.{job_faults, job_rest, after_plan, members, list_names}
use Rattle.ccr_pipeline.specs.Keys.{list_at, path_below, path_at}
use Rattle.ccr_pipeline.specs.Names.{names_at}
use Rattle.ccr_pipeline.specs.Objects.{key_faults, object_faults, value_faults}
use Rattle.ccr_pipeline.specs.Places.{Spot, gets_at, plan_steps, job_hooks, all_steps}
use Rattle.ccr_pipeline.specs.Plans.{plan_from}
use Rattle.ccr_pipeline.specs.Reading.{faults_before, pipeline_faults}
use Rattle.ccr_pipeline.specs.Schema.{closing}
use Rattle.ccr_pipeline.specs.StepRules.{visits}
use Rattle.ccr_pipeline.specs.Unknown.{unknown_in}
use Rattle.ccr_pipeline.proofs.Quiet.{left_all, right_all, Quiet}
use Rattle.ccr_pipeline.proofs.Told.{Tells, Silent, IsLimit, tells_parts, silent_append, test, keys_silent, object_silent, list_silent, resources_silent, unknown_silent}

module _ (r : Rule) (l : IsLimit r) where
  -- what is told of a job, but for its own keys, is silent where the visits of its steps are quiet
  pub rest_silent : (Is : Spot → Type 0) (p : Path) (d : Data) → Quiet r Is (plan_steps p d) → Quiet r Is (job_hooks p d) → AllByRecursion Is (plan_steps p d ++ job_hooks p d) → Silent r (job_rest p d)
  unfolding job_rest after_plan
  rest_silent Is p d steps hooks all =
      silent_append r (visits [] (plan_steps p d)) _ (steps (left_all Is (plan_steps p d) (job_hooks p d) all) [])
      (silent_append r (key_faults (value_faults 3) [] (closing schema.Job) p d) _ (keys_silent r l [] (closing schema.Job) p d)
      (silent_append r (visits (flat_map gets_at (plan_steps p d)) (job_hooks p d)) _ (hooks (right_all Is (plan_steps p d) (job_hooks p d) all) (flat_map gets_at (plan_steps p d)))
      (test r l (are_few (inputs (plan_from d))) rule.Number (path_below p (codes "plan")) (λ x. x))))

  -- of two parts, the one that isn't silent tells
  told_first : (fs gs : List (Rule × Path)) → Silent r gs → Tells r (fs ++ gs) → Tells r fs
  told_first [] gs h told = absurd (h told)
  told_first (f ∷ fs) gs h told = told

  told_second : (fs gs : List (Rule × Path)) → Silent r fs → Tells r (fs ++ gs) → Tells r gs
  told_second [] gs h told = told
  told_second (f ∷ fs) gs h told = absurd (h told)

  module _ (Is : Data → Type 0) (of_job : (p : Path) (d : Data) → Tells r (job_rest p d) → Is d) where
    in_jobs : (names : List (List ℕ)) (p : Path) (i : ℕ) (ds : Items) → Tells r (members job_faults names p i ds) → SomeItem Is ds
    in_jobs names p i no_items told = told
    in_jobs names p i (item d ds) told =
        tells_parts r (job_faults names (path_at p i) d) _
        (λ own. of_job (path_at p i) d (told_second (object_faults (value_faults 3) names schema.Job (path_at p i) d) _ (object_silent r l names schema.Job (path_at p i) d) own))
        (in_jobs (names ++ names_at (codes "name") d) p (i + 1) ds) told

    before_silent : (d : Data) → Silent r (faults_before d)
    unfolding faults_before
    before_silent d =
        silent_append r _ _ (test r l _ rule.Kind (codes "pipeline") (λ x. x))
        (silent_append r _ _ (list_silent r l (codes "resources") d)
        (silent_append r _ _ (resources_silent r l [] (codes "resources") 0 (list_at (codes "resources") d)) (list_silent r l (codes "jobs") d)))

    -- a pipeline whose first fault breaks a rule of limits has a job that does
    pub told_job : (d : Data) → Tells r (pipeline_faults d) → SomeItem Is (list_at (codes "jobs") d)
    unfolding pipeline_faults
    told_job d told =
        let jobs : Tells r (members job_faults [] (codes "jobs") 0 (list_at (codes "jobs") d) ++ unknown_in (list_names (codes "resources") d) (list_names (codes "jobs") d) d) = told_second (faults_before d) _ (before_silent d) told in
        in_jobs [] (codes "jobs") 0 (list_at (codes "jobs") d) (told_first _ _ (unknown_silent r l (list_names (codes "resources") d) (list_names (codes "jobs") d) (all_steps d)) jobs)
