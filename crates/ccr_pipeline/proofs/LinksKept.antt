-- Where no fault is present in a pipeline, no two of its resources and no two of its jobs have one name, and what its plans name is there.
use Rattle.std.proofs.Common.{◌≡◌, ℕ, suc, ◌+◌, ◌≤◌, true, false, nat_le, length, arith, List, [], ◌∷◌, ◌++◌, Option, Some, None, refl, ap, subst, ◌∙◌, is_some, codes}
use Rattle.std.proofs.lemmas.Bool.Decides.{nat_tests}
use Rattle.std.proofs.lemmas.List.Elements.{All-from_recursion}
use Rattle.std.specs.List.{AllByRecursion, IsDistinct}
use Rattle.std.specs.Str.{bytes_eq}
use Rattle.serde_json.specs.Data.{Data, Items, no_items, item}
use Rattle.serde_json.specs.Events.{items_len}
use Rattle.serde_json.specs.Find.{as_array, as_object}
use Rattle.ccr_pipeline.specs.declared.fault.Rule.TheVariants as rule
use Rattle.ccr_pipeline.specs.declared.lists.TheConstants.{MOST_MEMBERS}
use Rattle.ccr_pipeline.specs.declared.schema.Schema.TheVariants as schema
use Rattle.ccr_pipeline.specs.Faults.{Path, Faults, unless}
use Rattle.ccr_pipeline.specs.JobRules.{resource_faults, job_faults, job_rest, members, list_rule, names_in, list_names}
use Rattle.ccr_pipeline.specs.Keys.{at_key, or_else, list_at, items_in, path_at}
use Rattle.ccr_pipeline.specs.Places.{Spot, plan_steps, job_hooks, job_steps}
use Rattle.ccr_pipeline.specs.Links.{HasFewMembers, resource_names, job_names, HasDistinctResources, HasDistinctJobs, IsLinked, AreLinked}
use Rattle.ccr_pipeline.specs.Meaning.{text_or}
use Rattle.ccr_pipeline.specs.Names.{text_at, names_at}
use Rattle.ccr_pipeline.specs.Objects.{object_faults, value_faults}
use Rattle.ccr_pipeline.specs.Pipelines.{job_from, resources_in, resources_from, jobs_in, jobs_from}
use Rattle.ccr_pipeline.specs.Reading.{faults_before, pipeline_faults}
use Rattle.ccr_pipeline.specs.Tree.{Text}
use Rattle.ccr_pipeline.specs.Unknown.{unknown_spots, unknown_in}
use Rattle.ccr_pipeline.proofs.Linked.{linked_plan}
use Rattle.ccr_pipeline.proofs.NoteLemmas.{unknown_append}
use Rattle.ccr_pipeline.proofs.Repeats.{NoRepeat, distinct, with_text}
use Rattle.ccr_pipeline.proofs.Rows.{nil_left, nil_right, passes, IsNamed, resource_named, job_named as named_job}

-- the members of a list have names, by which they are called
abbrev called : Items → List Text
called no_items = []
called (item d ds) = text_or [] (codes "name") d ∷ called ds

module _ (one : List Text → Path → Data → Faults) (named : (names : List Text) (p : Path) (d : Data) → one names p d ≡ [] → IsNamed names (codes "name") d) where
  no_repeat : (names : List Text) (p : Path) (i : ℕ) (ds : Items) → members one names p i ds ≡ [] → NoRepeat names (names_in ds)
  no_repeat names p i no_items e = tt
  no_repeat names p i (item d ds) e =
      with_text names (names_in ds) (text_at (codes "name") d) (named names (path_at p i) d (nil_left (one names (path_at p i) d) _ e)).new
      (no_repeat (names ++ names_at (codes "name") d) p (i + 1) ds (nil_right (one names (path_at p i) d) _ e))

  each_called : (names : List Text) (p : Path) (i : ℕ) (ds : Items) → members one names p i ds ≡ [] → names_in ds ≡ called ds
  each_called names p i no_items e = refl
  each_called names p i (item d ds) e =
      let first = (named names (path_at p i) d (nil_left (one names (path_at p i) d) _ e)).one in
      let rest = each_called (names ++ names_at (codes "name") d) p (i + 1) ds (nil_right (one names (path_at p i) d) _ e) in
      rw (first, rest) refl

pub job_named : (names : List Text) (p : Path) (d : Data) → job_faults names p d ≡ [] → IsNamed names (codes "name") d
job_named names p d e = named_job names p d (nil_left (object_faults (value_faults 3) names schema.Job p d) _ e)

-- no two jobs of a list have one name
pub job_names_once : (names : List Text) (i : ℕ) (ds : Items) → members job_faults names (codes "jobs") i ds ≡ [] → NoRepeat names (names_in ds)
job_names_once names i ds e = no_repeat job_faults job_named names (codes "jobs") i ds e

resources_called : (ds : Items) → called ds ≡ resource_names (resources_in ds)
resources_called no_items = refl
resources_called (item d ds) = ap (λ names. text_or [] (codes "name") d ∷ names) (resources_called ds)

jobs_called : (ds : Items) → called ds ≡ job_names (jobs_in ds)
unfolding job_from
jobs_called no_items = refl
jobs_called (item d ds) = ap (λ names. text_or [] (codes "name") d ∷ names) (jobs_called ds)

counted_resources : (ds : Items) → items_len ds ≡ length (resources_in ds)
counted_resources no_items = refl
counted_resources (item d ds) = ap suc (counted_resources ds)

counted_jobs : (ds : Items) → items_len ds ≡ length (jobs_in ds)
counted_jobs no_items = refl
counted_jobs (item d ds) = ap suc (counted_jobs ds)

-- a list of resources or jobs is short where no fault is present in it
module _ (k : Path) where
  few_items : (o : Option Items) → or_else o (unless false rule.Kind k) (λ ds. unless (nat_le (items_len ds) MOST_MEMBERS) rule.Number k) ≡ [] → nat_le (items_len (or_else o no_items (λ ds. ds))) MOST_MEMBERS ≡ true
  few_items None e = refl
  few_items (Some ds) e = passes (nat_le (items_len ds) MOST_MEMBERS) rule.Number k e

  few_at : (o : Option Data) → or_else o [] (λ found. or_else (as_array found) (unless false rule.Kind k) (λ ds. unless (nat_le (items_len ds) MOST_MEMBERS) rule.Number k)) ≡ [] → nat_le (items_len (or_else o no_items items_in)) MOST_MEMBERS ≡ true
  few_at None e = refl
  few_at (Some found) e = few_items (as_array found) e

  few_list : (d : Data) → list_rule k d ≡ [] → nat_le (items_len (list_at k d)) MOST_MEMBERS ≡ true
  unfolding list_rule
  few_list d e = few_at (at_key k d) e

at_most : (n m : ℕ) → nat_le n MOST_MEMBERS ≡ true → n ≡ m → m ≤ MOST_MEMBERS
at_most n m few e = grind (arith, nat_tests)

-- the plans of a list of jobs
module _ (resources jobs : List Text) where
  each_linked : (names : List Text) (i : ℕ) (ds : Items) → members job_faults names (codes "jobs") i ds ≡ [] → unknown_spots resources jobs (job_steps i ds) ≡ [] → AllByRecursion (λ j. IsLinked resources jobs j.plan) (jobs_in ds)
  unfolding job_from
  each_linked names i no_items e u = tt
  each_linked names i (item d ds) e u =
      let p = path_at (codes "jobs") i in
      let own : List Spot = plan_steps p d ++ job_hooks p d in
      let known : unknown_spots resources jobs own ++ unknown_spots resources jobs (job_steps (i + 1) ds) ≡ [] = rw (unknown_append resources jobs own (job_steps (i + 1) ds)) at u in
      let one : job_faults names p d ≡ [] = nil_left (job_faults names p d) _ e in
      let rest : job_rest p d ≡ [] = nil_right (object_faults (value_faults 3) names schema.Job p d) _ one in (
        linked_plan resources jobs p d rest (nil_left _ _ known),
        each_linked (names ++ names_at (codes "name") d) (i + 1) ds (nil_right (job_faults names p d) _ e) (nil_right (unknown_spots resources jobs own) _ known),
      )

module _ (d : Data) (none : pipeline_faults d ≡ []) where
  before : faults_before d ≡ []
  unfolding pipeline_faults
  before = nil_left (faults_before d) _ none

  lists : list_rule (codes "resources") d ++ (members resource_faults [] (codes "resources") 0 (list_at (codes "resources") d) ++ list_rule (codes "jobs") d) ≡ []
  unfolding faults_before
  lists = nil_right (unless (is_some (as_object d)) rule.Kind (codes "pipeline")) _ before

  inner : members resource_faults [] (codes "resources") 0 (list_at (codes "resources") d) ++ list_rule (codes "jobs") d ≡ []
  inner = nil_right (list_rule (codes "resources") d) _ lists

  in_resources : members resource_faults [] (codes "resources") 0 (list_at (codes "resources") d) ≡ []
  in_resources = nil_left _ (list_rule (codes "jobs") d) inner

  after : members job_faults [] (codes "jobs") 0 (list_at (codes "jobs") d) ++ unknown_in (list_names (codes "resources") d) (list_names (codes "jobs") d) d ≡ []
  unfolding pipeline_faults
  after = nil_right (faults_before d) _ none

  in_jobs : members job_faults [] (codes "jobs") 0 (list_at (codes "jobs") d) ≡ []
  in_jobs = nil_left _ _ after

  resources_named : list_names (codes "resources") d ≡ resource_names (resources_from d)
  resources_named = each_called resource_faults resource_named [] (codes "resources") 0 (list_at (codes "resources") d) in_resources ∙ resources_called (list_at (codes "resources") d)

  jobs_named : list_names (codes "jobs") d ≡ job_names (jobs_from d)
  jobs_named = each_called job_faults job_named [] (codes "jobs") 0 (list_at (codes "jobs") d) in_jobs ∙ jobs_called (list_at (codes "jobs") d)

  pub distinct_resources : HasDistinctResources (resources_from d)
  distinct_resources = subst (IsDistinct bytes_eq) resources_named (distinct [] (list_names (codes "resources") d) (no_repeat resource_faults resource_named [] (codes "resources") 0 (list_at (codes "resources") d) in_resources))

  pub distinct_jobs : HasDistinctJobs (jobs_from d)
  distinct_jobs = subst (IsDistinct bytes_eq) jobs_named (distinct [] (list_names (codes "jobs") d) (job_names_once [] 0 (list_at (codes "jobs") d) in_jobs))

  pub few_resources : HasFewMembers (resources_from d)
  few_resources = at_most _ _ (few_list (codes "resources") d (nil_left (list_rule (codes "resources") d) _ lists)) (counted_resources (list_at (codes "resources") d))

  pub few_jobs : HasFewMembers (jobs_from d)
  few_jobs = at_most _ _ (few_list (codes "jobs") d (nil_right (members resource_faults [] (codes "resources") 0 (list_at (codes "resources") d)) _ inner)) (counted_jobs (list_at (codes "jobs") d))

  pub are_linked : AreLinked (resources_from d) (jobs_from d)
  are_linked =
      let known : unknown_in (list_names (codes "resources") d) (list_names (codes "jobs") d) d ≡ [] = nil_right (members job_faults [] (codes "jobs") 0 (list_at (codes "jobs") d)) _ after in
      All-from_recursion (λ j. IsLinked (resource_names (resources_from d)) (job_names (jobs_from d)) j.plan) (jobs_from d)
      (each_linked (resource_names (resources_from d)) (job_names (jobs_from d)) [] 0 (list_at (codes "jobs") d) in_jobs (rw (resources_named, jobs_named) at known))
