-- Pipelines that differ in keys without effect alone say the same.
use Rattle.std.proofs.Common.{◌≡◌, ℕ, suc, ◌+◌, List, [], ◌∷◌, ◌++◌, Bool, true, false, nat_le, Option, Some, None, refl, sym, ap, ap₂, ◌∙◌, map, option_map, codes}
use Rattle.std.specs.List.{flat_map}
use Rattle.serde_json.specs.Data.{Data, array, Items, no_items, item}
use Rattle.serde_json.specs.Events.{items_len}
use Rattle.serde_json.specs.Find.{as_array}
use Rattle.ccr_pipeline.specs.declared.lists.TheConstants.{MOST_MEMBERS}
use Rattle.ccr_pipeline.specs.declared.walk.TheConstants.{LEVELS}
use Rattle.ccr_pipeline.specs.declared.schema.Kind.{Kind}
use Rattle.ccr_pipeline.specs.declared.schema.Kind.TheVariants as kind
use Rattle.ccr_pipeline.specs.declared.schema.Schema.{Schema}
use Rattle.ccr_pipeline.specs.declared.schema.Schema.TheVariants as schema
use Rattle.ccr_pipeline.specs.declared.schema.TheConstants.{NESTED}
use Rattle.ccr_pipeline.specs.declared.fault.Rule.TheVariants as rule
use Rattle.ccr_pipeline.specs.Faults.{Path, Faults, unless}
use Rattle.ccr_pipeline.specs.JobRules.{resource_faults, job_faults, job_rest, after_plan, members, list_rule, list_names, names_in}
use Rattle.ccr_pipeline.specs.Keys.{at_key, or_else, items_in, list_at, path_at}
use Rattle.ccr_pipeline.specs.Names.{names_at}
use Rattle.ccr_pipeline.specs.Objects.{key_faults, value_faults}
use Rattle.ccr_pipeline.specs.Pipelines.{resource_from, resources_in, resources_from, job_from, jobs_in, jobs_from, SaysTheSame, SaysTheSameUntimed}
use Rattle.ccr_pipeline.specs.Places.{gets_at, steps_from, plan_steps, job_hooks, job_steps}
use Rattle.ccr_pipeline.specs.Plans.{plan_from}
use Rattle.ccr_pipeline.specs.Reading.{faults_before, pipeline_faults}
use Rattle.ccr_pipeline.specs.Schema.{opening, closing}
use Rattle.ccr_pipeline.specs.Unknown.{unknown_in}
use Rattle.ccr_pipeline.specs.Used.{kept, kind_at, used, used_items, used_pipeline, bare_pipeline}
use Rattle.ccr_pipeline.proofs.Timed.{timed_job, jobs_stay, jobs_untimed, inputs_timed}
use Rattle.ccr_pipeline.proofs.UsedKeys.{used_like, at_used, at_same, items_used, list_used}
use Rattle.ccr_pipeline.proofs.UsedValues.{fits_part, keys_same, object_same}
use Rattle.ccr_pipeline.proofs.UsedSteps.{job_hooked}
use Rattle.ccr_pipeline.proofs.UsedMeaning.{plan_used, plan_same}
use Rattle.ccr_pipeline.proofs.UsedVisits.{AllAlike, join, visits_same, gets_alike, unknown_alike, list_alike, hooks_alike, steps_alike}

-- what is broken in a value that has to be a list of at most 200 members
abbrev Limited : List ℕ → Data → Faults
Limited k found = or_else (as_array found) (unless false rule.Kind k) (λ ds. unless (nat_le (items_len ds) MOST_MEMBERS) rule.Number k)

module _ (timed : Bool) where
  -- a resource

  resource_same : (d : Data) → resource_from (used timed (kind.Object schema.Resource) d) ≡ resource_from d
  unfolding kind_at
  resource_same d =
      rw (at_same timed schema.Resource (codes "name") d refl, at_same timed schema.Resource (codes "type") d refl, at_same timed schema.Resource (codes "source") d refl, at_same timed schema.Resource (codes "version") d refl)
      refl

  resources_same : (ds : Items) → resources_in (used_items timed (kind.Object schema.Resource) ds) ≡ resources_in ds
  resources_same no_items = refl
  resources_same (item d ds) = ap₂ (λ r rs. r ∷ rs) (resource_same d) (resources_same ds)

  resource_name : (d : Data) → names_at (codes "name") (used timed (kind.Object schema.Resource) d) ≡ names_at (codes "name") d
  unfolding kind_at
  resource_name d = rw (at_same timed schema.Resource (codes "name") d refl) refl

  -- a job

  job_same : (d : Data) → job_from (used timed (kind.Object schema.Job) d) ≡ timed_job timed (job_from d)
  unfolding kind_at job_from
  job_same d =
      rw (at_same timed schema.Job (codes "name") d refl, plan_same timed d, at_same timed schema.Job (codes "serial") d refl, at_same timed schema.Job (codes "serial_groups") d refl, at_same timed schema.Job (codes "max_in_flight") d refl)
      refl

  jobs_same : (ds : Items) → jobs_in (used_items timed (kind.Object schema.Job) ds) ≡ map (timed_job timed) (jobs_in ds)
  jobs_same no_items = refl
  jobs_same (item d ds) = ap₂ (λ j js. j ∷ js) (job_same d) (jobs_same ds)

  job_name : (d : Data) → names_at (codes "name") (used timed (kind.Object schema.Job) d) ≡ names_at (codes "name") d
  unfolding kind_at
  job_name d = rw (at_same timed schema.Job (codes "name") d refl) refl

  plan_alike : (p : Path) (d : Data) → AllAlike (plan_steps p (used timed (kind.Object schema.Job) d)) (plan_steps p d)
  plan_alike p d = list_alike timed (steps_from LEVELS) (steps_alike timed LEVELS) 1 p (codes "plan") (used timed (kind.Object schema.Job) d) d (plan_used timed d)

  job_hooks_alike : (p : Path) (d : Data) → AllAlike (job_hooks p (used timed (kind.Object schema.Job) d)) (job_hooks p d)
  job_hooks_alike p d = hooks_alike timed (steps_from LEVELS) (steps_alike timed LEVELS) 1 p (used timed (kind.Object schema.Job) d) d (job_hooked timed d)

  job_keys_same : (p : Path) (d : Data) → key_faults (value_faults NESTED) [] (closing schema.Job) p (used timed (kind.Object schema.Job) d) ≡ key_faults (value_faults NESTED) [] (closing schema.Job) p d
  unfolding kind_at
  job_keys_same p d =
      keys_same timed NESTED schema.Job [] (closing schema.Job) p d (fits_part timed schema.Job (opening schema.Job) (closing schema.Job) (kept timed schema.Job) (λ k. refl) refl refl)

  after_plan_same : (gets : List (List ℕ)) (p : Path) (d : Data) → after_plan gets p (used timed (kind.Object schema.Job) d) ≡ after_plan gets p d
  unfolding after_plan
  after_plan_same gets p d = rw (job_keys_same p d, visits_same gets _ _ (job_hooks_alike p d), plan_same timed d, inputs_timed timed (plan_from d)) refl

  job_faults_same : (names : List (List ℕ)) (p : Path) (d : Data) → job_faults names p (used timed (kind.Object schema.Job) d) ≡ job_faults names p d
  unfolding job_rest
  job_faults_same names p d =
      rw (object_same timed NESTED schema.Job names p d, visits_same [] _ _ (plan_alike p d), gets_alike _ _ (plan_alike p d), after_plan_same (flat_map gets_at (plan_steps p d)) p d)
      refl

  job_steps_alike : (i : ℕ) (ds : Items) → AllAlike (job_steps i (used_items timed (kind.Object schema.Job) ds)) (job_steps i ds)
  job_steps_alike i no_items = tt
  job_steps_alike i (item d ds) =
      join _ _ _ _
      (join _ _ _ _ (plan_alike (path_at (codes "jobs") i) d) (job_hooks_alike (path_at (codes "jobs") i) d))
      (job_steps_alike (i + 1) ds)

  -- lists of either

  module _ (s : Schema) (name : (d : Data) → names_at (codes "name") (used timed (kind.Object s) d) ≡ names_at (codes "name") d) where
    names_same : (ds : Items) → names_in (used_items timed (kind.Object s) ds) ≡ names_in ds
    names_same no_items = refl
    names_same (item d ds) = ap₂ (λ xs ys. xs ++ ys) (name d) (names_same ds)

    members_same : (one : List (List ℕ) → Path → Data → Faults) → ((names : List (List ℕ)) (p : Path) (d : Data) → one names p (used timed (kind.Object s) d) ≡ one names p d) → (names : List (List ℕ)) (p : Path) (i : ℕ) (ds : Items) → members one names p i (used_items timed (kind.Object s) ds) ≡ members one names p i ds
    members_same one same names p i no_items = refl
    members_same one same names p i (item d ds) =
        ap₂ (λ xs ys. xs ++ ys) (same names (path_at p i) d)
        (rw (name d) (members_same one same (names ++ names_at (codes "name") d) p (i + 1) ds))

  length_same : (k : Kind) (ds : Items) → items_len (used_items timed k ds) ≡ items_len ds
  length_same k no_items = refl
  length_same k (item d ds) = ap suc (length_same k ds)

  limited_same : (s : Schema) (k : List ℕ) (o : Option Data) → or_else (option_map (used timed (kind.Objects s)) o) [] (Limited k) ≡ or_else o [] (Limited k)
  limited_same s k None = refl
  limited_same s k (Some (array ds)) = ap (λ m. unless (nat_le m MOST_MEMBERS) rule.Number k) (length_same (kind.Object s) ds)
  limited_same s k (Some _) = refl

  -- the lists of a pipeline

  -- a pipeline without its unused keys
  abbrev pub pipeline : Data → Data
  pipeline d = used timed (kind.Object schema.Pipeline) d

  resources_at : (d : Data) → at_key (codes "resources") (pipeline d) ≡ option_map (used timed (kind.Objects schema.Resource)) (at_key (codes "resources") d)
  unfolding kind_at
  resources_at d = at_used timed schema.Pipeline (codes "resources") (kind.Objects schema.Resource) refl d

  jobs_at : (d : Data) → at_key (codes "jobs") (pipeline d) ≡ option_map (used timed (kind.Objects schema.Job)) (at_key (codes "jobs") d)
  unfolding kind_at
  jobs_at d = at_used timed schema.Pipeline (codes "jobs") (kind.Objects schema.Job) refl d

  resources_used : (d : Data) → list_at (codes "resources") (pipeline d) ≡ used_items timed (kind.Object schema.Resource) (list_at (codes "resources") d)
  resources_used d =
      ap (λ o. or_else o no_items items_in) (resources_at d)
      ∙ list_used timed (kind.Objects schema.Resource) _ (items_used timed schema.Resource) (at_key (codes "resources") d)

  pub jobs_used : (d : Data) → list_at (codes "jobs") (pipeline d) ≡ used_items timed (kind.Object schema.Job) (list_at (codes "jobs") d)
  jobs_used d =
      ap (λ o. or_else o no_items items_in) (jobs_at d)
      ∙ list_used timed (kind.Objects schema.Job) _ (items_used timed schema.Job) (at_key (codes "jobs") d)

  rule_same : (s : Schema) (k : List ℕ) (d : Data) → at_key k (pipeline d) ≡ option_map (used timed (kind.Objects s)) (at_key k d) → list_rule k (pipeline d) ≡ list_rule k d
  unfolding list_rule
  rule_same s k d at = ap (λ o. or_else o [] (Limited k)) at ∙ limited_same s k (at_key k d)

  before_same : (d : Data) → faults_before (pipeline d) ≡ faults_before d
  unfolding faults_before
  before_same d =
      rw (
        (used_like timed (kind.Object schema.Pipeline) d).is_object,
        rule_same schema.Resource (codes "resources") d (resources_at d),
        resources_used d,
        members_same schema.Resource resource_name resource_faults (object_same timed NESTED schema.Resource) [] (codes "resources") 0 (list_at (codes "resources") d),
        rule_same schema.Job (codes "jobs") d (jobs_at d),
      )
      refl

  unknown_same : (d : Data) → unknown_in (list_names (codes "resources") (pipeline d)) (list_names (codes "jobs") (pipeline d)) (pipeline d) ≡ unknown_in (list_names (codes "resources") d) (list_names (codes "jobs") d) d
  unknown_same d =
      rw (resources_used d, jobs_used d, names_same schema.Resource resource_name (list_at (codes "resources") d), names_same schema.Job job_name (list_at (codes "jobs") d))
      (unknown_alike (list_names (codes "resources") d) (list_names (codes "jobs") d) _ _ (job_steps_alike 0 (list_at (codes "jobs") d)))

  faults_same : (d : Data) → pipeline_faults (pipeline d) ≡ pipeline_faults d
  unfolding pipeline_faults
  faults_same d =
      rw (before_same d, unknown_same d, jobs_used d, members_same schema.Job job_name job_faults job_faults_same [] (codes "jobs") 0 (list_at (codes "jobs") d))
      refl

  resources_read : (d : Data) → resources_from (pipeline d) ≡ resources_from d
  resources_read d = ap resources_in (resources_used d) ∙ resources_same (list_at (codes "resources") d)

  jobs_read : (d : Data) → jobs_from (pipeline d) ≡ map (timed_job timed) (jobs_from d)
  jobs_read d = ap jobs_in (jobs_used d) ∙ jobs_same (list_at (codes "jobs") d)

  faults_alike : (e d : Data) → pipeline e ≡ pipeline d → pipeline_faults e ≡ pipeline_faults d
  faults_alike e d is = sym (faults_same e) ∙ ap pipeline_faults is ∙ faults_same d

  resources_alike : (e d : Data) → pipeline e ≡ pipeline d → resources_from e ≡ resources_from d
  resources_alike e d is = sym (resources_read e) ∙ ap resources_from is ∙ resources_read d

  jobs_alike : (e d : Data) → pipeline e ≡ pipeline d → map (timed_job timed) (jobs_from e) ≡ map (timed_job timed) (jobs_from d)
  jobs_alike e d is = sym (jobs_read e) ∙ ap jobs_from is ∙ jobs_read d

pub says_the_same : (e d : Data) → used_pipeline e ≡ used_pipeline d → SaysTheSame e d
says_the_same e d is = record {
  faults = faults_alike true e d is;
  resources = resources_alike true e d is;
  jobs = sym (jobs_stay (jobs_from e)) ∙ jobs_alike true e d is ∙ jobs_stay (jobs_from d);
}

pub says_the_same_untimed : (e d : Data) → bare_pipeline e ≡ bare_pipeline d → SaysTheSameUntimed e d
says_the_same_untimed e d is = record {
  faults = faults_alike false e d is;
  resources = resources_alike false e d is;
  jobs = sym (jobs_untimed (jobs_from e)) ∙ jobs_alike false e d is ∙ jobs_untimed (jobs_from d);
}
