-- A pipeline in which no fault is present, printed as a JSON value from what was read of it, is read as the same.
use Rattle.std.proofs.Common.{◌≡◌, ℕ, suc, ◌+◌, ◌≤◌, List, [], ◌∷◌, ◌++◌, length, true, false, nat_le, refl, sym, subst, ap, ap₂, ◌∙◌, is_some, codes, arith}
use Rattle.std.proofs.lemmas.Bool.Decides.{nat_tests}
use Rattle.std.specs.List.{flat_map}
use Rattle.serde_json.specs.Data.{unsigned, Data, number, array, Items, no_items, item}
use Rattle.serde_json.specs.Events.{items_len}
use Rattle.serde_json.specs.Find.{as_object}
use Rattle.ccr_pipeline.specs.declared.fault.Rule.TheVariants as rule
use Rattle.ccr_pipeline.specs.declared.lists.TheConstants.{MOST_MEMBERS}
use Rattle.ccr_pipeline.specs.declared.schema.Kind.TheVariants as kind
use Rattle.ccr_pipeline.specs.declared.schema.Schema.TheVariants as schema
use Rattle.ccr_pipeline.specs.declared.walk.TheConstants.{LEVELS}
use Rattle.ccr_pipeline.specs.Faults.{Path, unless}
use Rattle.ccr_pipeline.specs.JobData.{JobData, ResourceData}
use Rattle.ccr_pipeline.specs.JobRules.{too_many, after_plan, job_rest, resource_faults, job_faults, members, list_rule, names_in, list_names}
use Rattle.ccr_pipeline.specs.Keys.{at_key, list_at, path_below, path_at}
use Rattle.ccr_pipeline.specs.Kinds.{is_name}
use Rattle.ccr_pipeline.specs.Names.{has_name, names_at}
use Rattle.ccr_pipeline.specs.Objects.{broken, key_faults, object_faults, value_faults}
use Rattle.ccr_pipeline.specs.Pipelines.{resources_in, resources_from, job_from, jobs_in, jobs_from, AreReadAgain}
use Rattle.ccr_pipeline.specs.Places.{Spot, gets_at, plan_steps, job_hooks, job_steps}
use Rattle.ccr_pipeline.specs.Plans.{plan_from}
use Rattle.ccr_pipeline.specs.Printed.{Around, job_value, job_values, resource_values, pipeline_value}
use Rattle.ccr_pipeline.specs.Reading.{faults_before, pipeline_faults}
use Rattle.ccr_pipeline.specs.Schema.{closing}
use Rattle.ccr_pipeline.specs.StepRules.{visits}
use Rattle.ccr_pipeline.specs.Steps.{step_tree}
use Rattle.ccr_pipeline.specs.Tree.{Text}
use Rattle.ccr_pipeline.specs.Unknown.{unknown_spots, unknown_in}
use Rattle.ccr_pipeline.proofs.Joined.{both_nil}
use Rattle.ccr_pipeline.proofs.LinksKept.{job_named, few_resources, few_jobs}
use Rattle.ccr_pipeline.proofs.NoteLemmas.{unknown_append}
use Rattle.ccr_pipeline.proofs.PrintedLeaves.{new_row, texts_row, truth_row, is_new, resource_again, resource_quiet, resource_named}
use Rattle.ccr_pipeline.proofs.PrintedTrees.{around_of, planned, steps_of, printed_job, job_again}
use Rattle.ccr_pipeline.proofs.PrintedVisits.{Fine, step_quiet, plan_follows, hooks_follow}
use Rattle.ccr_pipeline.proofs.Rows.{nil_left, nil_right, IsNamed}

-- resources

resources_again : (ds : Items) → resources_in (resource_values (resources_in ds)) ≡ resources_in ds
resources_again no_items = refl
resources_again (item d ds) = ap₂ (λ r rs. r ∷ rs) (resource_again d) (resources_again ds)

resources_quiet : (names : List Text) (i : ℕ) (ds : Items) → members resource_faults names (codes "resources") i ds ≡ [] → members resource_faults names (codes "resources") i (resource_values (resources_in ds)) ≡ []
resources_quiet names i no_items e = refl
resources_quiet names i (item d ds) e =
    let p = path_at (codes "resources") i in
    let one : resource_faults names p d ≡ [] = nil_left (resource_faults names p d) _ e in
    rw (resource_quiet names p p d one, resource_named names p d one)
    (resources_quiet (names ++ names_at (codes "name") d) (i + 1) ds (nil_right (resource_faults names p d) _ e))

resources_named : (names : List Text) (i : ℕ) (ds : Items) → members resource_faults names (codes "resources") i ds ≡ [] → names_in (resource_values (resources_in ds)) ≡ names_in ds
resources_named names i no_items e = refl
resources_named names i (item d ds) e =
    let p = path_at (codes "resources") i in
    ap₂ (λ xs ys. xs ++ ys) (resource_named names p d (nil_left (resource_faults names p d) _ e))
    (resources_named (names ++ names_at (codes "name") d) (i + 1) ds (nil_right (resource_faults names p d) _ e))

resources_counted : (rs : List ResourceData) → items_len (resource_values rs) ≡ length rs
resources_counted [] = refl
resources_counted (r ∷ rs) = ap suc (resources_counted rs)

-- a job's own keys, as they are printed

steps_quiet : (p : Path) (whole : Data) (ds : Items) → value_faults 3 kind.Steps p whole (array ds) ++ [] ≡ []
unfolding value_faults broken
steps_quiet p whole ds = refl

whole_quiet : (p : Path) (whole : Data) (n : ℕ) → value_faults 3 kind.Whole p whole (number (unsigned n)) ++ [] ≡ []
unfolding value_faults broken
whole_quiet p whole n = refl

module _ (j : JobData) (a : Around) (ds : Items) where
  abbrev It : Data
  It = planned j a ds

  own_quiet : (names : List Text) (p : Path) → is_name j.name ≡ true → has_name names j.name ≡ false → object_faults (value_faults 3) names schema.Job p It ≡ []
  unfolding object_faults
  own_quiet names p is new =
      both_nil _ _ (new_row 2 (path_below p (codes "name")) It names j.name is new)
      (both_nil _ _ (steps_quiet (path_below p (codes "plan")) It ds) refl)

  closing_quiet : (p : Path) → key_faults (value_faults 3) [] (closing schema.Job) p It ≡ []
  closing_quiet p =
      both_nil _ _ (truth_row 2 (path_below p (codes "serial")) It j.serial)
      (both_nil _ _ (texts_row 2 (path_below p (codes "serial_groups")) It j.serial_groups)
      (both_nil _ _ (whole_quiet (path_below p (codes "max_in_flight")) It j.max_in_flight)
      (both_nil _ _ (step_quiet (path_below p (codes "on_success")) It (at_key (codes "on_success") It))
      (both_nil _ _ (step_quiet (path_below p (codes "on_failure")) It (at_key (codes "on_failure") It))
      (both_nil _ _ (step_quiet (path_below p (codes "on_error")) It (at_key (codes "on_error") It))
      (both_nil _ _ (step_quiet (path_below p (codes "on_abort")) It (at_key (codes "on_abort") It))
      (both_nil _ _ (step_quiet (path_below p (codes "ensure")) It (at_key (codes "ensure") It)) refl)))))))

-- what is printed of a job in which no fault is present, and whose names are there
record JobFine (resources jobs names : List Text) (p : Path) (e d : Data) : Type 0 where
  faults : job_faults names p e ≡ []
  known : unknown_spots resources jobs (plan_steps p e ++ job_hooks p e) ≡ []
  name : names_at (codes "name") e ≡ names_at (codes "name") d

plan_same : (d : Data) → plan_from (job_value (job_from d)) ≡ plan_from d
unfolding job_from
plan_same d = ap (λ j. j.plan) (job_again d)

module _ (resources jobs names : List Text) (p : Path) (d : Data) where
  abbrev Printed : Data
  Printed = job_value (job_from d)

  first_quiet : IsNamed names (codes "name") d → object_faults (value_faults 3) names schema.Job p Printed ≡ []
  unfolding job_from
  first_quiet is =
      subst (λ e. object_faults (value_faults 3) names schema.Job p e ≡ []) (sym (printed_job d))
      (own_quiet (job_from d) (around_of (step_tree LEVELS) d) (steps_of (step_tree LEVELS) d) names p is.name (is_new names (codes "name") d is))

  same_name : IsNamed names (codes "name") d → names_at (codes "name") Printed ≡ names_at (codes "name") d
  unfolding job_from
  same_name is = ap (names_at (codes "name")) (printed_job d) ∙ sym is.one

  last_quiet : key_faults (value_faults 3) [] (closing schema.Job) p Printed ≡ []
  last_quiet =
      subst (λ e. key_faults (value_faults 3) [] (closing schema.Job) p e ≡ []) (sym (printed_job d))
      (closing_quiet (job_from d) (around_of (step_tree LEVELS) d) (steps_of (step_tree LEVELS) d) p)

  number_quiet : too_many p (plan_from d) ≡ [] → too_many p (plan_from Printed) ≡ []
  number_quiet e = rw (plan_same d) e

  rest_quiet : job_rest p d ≡ [] → (plan : Fine resources jobs [] (plan_steps p Printed) (flat_map gets_at (plan_steps p d))) → Fine resources jobs (flat_map gets_at (plan_steps p d)) (job_hooks p Printed) (flat_map gets_at (job_hooks p d)) → job_rest p Printed ≡ []
  unfolding job_rest after_plan
  rest_quiet e plan hooks =
      let after = nil_right (visits [] (plan_steps p d)) _ e in
      let number : too_many p (plan_from d) ≡ [] = nil_right (visits (flat_map gets_at (plan_steps p d)) (job_hooks p d)) _ (nil_right (key_faults (value_faults 3) [] (closing schema.Job) p d) _ after) in
      both_nil _ _ plan.faults (both_nil _ _ last_quiet (both_nil _ _ (rw plan.same hooks.faults) (number_quiet number)))

  plan_fine : job_rest p d ≡ [] → unknown_spots resources jobs (plan_steps p d) ≡ [] → Fine resources jobs [] (plan_steps p Printed) (flat_map gets_at (plan_steps p d))
  unfolding job_rest
  plan_fine e known = plan_follows p p d resources jobs [] (nil_left (visits [] (plan_steps p d)) _ e) known

  hooks_fine : job_rest p d ≡ [] → unknown_spots resources jobs (job_hooks p d) ≡ [] → Fine resources jobs (flat_map gets_at (plan_steps p d)) (job_hooks p Printed) (flat_map gets_at (job_hooks p d))
  unfolding job_rest after_plan
  hooks_fine e known =
      let after = nil_right (visits [] (plan_steps p d)) _ e in
      hooks_follow p p d resources jobs (flat_map gets_at (plan_steps p d)) (nil_left (visits (flat_map gets_at (plan_steps p d)) (job_hooks p d)) _ (nil_right (key_faults (value_faults 3) [] (closing schema.Job) p d) _ after)) known

  job_fine : job_faults names p d ≡ [] → unknown_spots resources jobs (plan_steps p d ++ job_hooks p d) ≡ [] → JobFine resources jobs names p Printed d
  job_fine e known =
      let own : object_faults (value_faults 3) names schema.Job p d ≡ [] = nil_left _ (job_rest p d) e in
      let rest : job_rest p d ≡ [] = nil_right (object_faults (value_faults 3) names schema.Job p d) _ e in
      let parts : unknown_spots resources jobs (plan_steps p d) ++ unknown_spots resources jobs (job_hooks p d) ≡ [] = rw (unknown_append resources jobs (plan_steps p d) (job_hooks p d)) at known in
      let plan = plan_fine rest (nil_left _ _ parts) in
      let hooks = hooks_fine rest (nil_right (unknown_spots resources jobs (plan_steps p d)) _ parts) in
      let is = job_named names p d e in
      record {
        faults = both_nil _ _ (first_quiet is) (rest_quiet rest plan hooks);
        known = rw (unknown_append resources jobs (plan_steps p Printed) (job_hooks p Printed)) (both_nil _ _ plan.known hooks.known);
        name = same_name is;
      }

-- jobs

jobs_again : (ds : Items) → jobs_in (job_values (jobs_in ds)) ≡ jobs_in ds
jobs_again no_items = refl
jobs_again (item d ds) = ap₂ (λ j js. j ∷ js) (job_again d) (jobs_again ds)

jobs_counted : (js : List JobData) → items_len (job_values js) ≡ length js
jobs_counted [] = refl
jobs_counted (j ∷ js) = ap suc (jobs_counted js)

-- what is printed of the jobs of a list
record JobsFine (resources jobs names : List Text) (i : ℕ) (es ds : Items) : Type 0 where
  faults : members job_faults names (codes "jobs") i es ≡ []
  known : unknown_spots resources jobs (job_steps i es) ≡ []
  named : names_in es ≡ names_in ds

jobs_fine : (resources jobs names : List Text) (i : ℕ) (ds : Items) → members job_faults names (codes "jobs") i ds ≡ [] → unknown_spots resources jobs (job_steps i ds) ≡ [] → JobsFine resources jobs names i (job_values (jobs_in ds)) ds
jobs_fine resources jobs names i no_items e known = record { faults = refl; known = refl; named = refl }
jobs_fine resources jobs names i (item d ds) e known =
    let p = path_at (codes "jobs") i in
    let own : List Spot = plan_steps p d ++ job_hooks p d in
    let parts : unknown_spots resources jobs own ++ unknown_spots resources jobs (job_steps (i + 1) ds) ≡ [] = rw (unknown_append resources jobs own (job_steps (i + 1) ds)) at known in
    let one = job_fine resources jobs names p d (nil_left (job_faults names p d) _ e) (nil_left _ _ parts) in
    let more = jobs_fine resources jobs (names ++ names_at (codes "name") d) (i + 1) ds (nil_right (job_faults names p d) _ e) (nil_right (unknown_spots resources jobs own) _ parts) in
    let printed : List Spot = plan_steps p (job_value (job_from d)) ++ job_hooks p (job_value (job_from d)) in
    record {
      faults = both_nil _ _ one.faults (rw one.name more.faults);
      known = rw (unknown_append resources jobs printed (job_steps (i + 1) (job_values (jobs_in ds)))) (both_nil _ _ one.known more.known);
      named = ap₂ (λ xs ys. xs ++ ys) one.name more.named;
    }

-- a pipeline

few_quiet : (k : Path) (ds : Items) (n : ℕ) → items_len ds ≡ n → n ≤ MOST_MEMBERS → unless (nat_le (items_len ds) MOST_MEMBERS) rule.Number k ≡ []
few_quiet k ds n is few =
    let fits : nat_le (items_len ds) MOST_MEMBERS ≡ true = rw is (grind (arith, nat_tests, few)) in
    rw fits refl

module _ (d : Data) (none : pipeline_faults d ≡ []) where
  abbrev Again : Data
  Again = pipeline_value (resources_from d) (jobs_from d)

  before : faults_before d ≡ []
  unfolding pipeline_faults
  before = nil_left (faults_before d) _ none

  after : members job_faults [] (codes "jobs") 0 (list_at (codes "jobs") d) ++ unknown_in (list_names (codes "resources") d) (list_names (codes "jobs") d) d ≡ []
  unfolding pipeline_faults
  after = nil_right (faults_before d) _ none

  in_resources : members resource_faults [] (codes "resources") 0 (list_at (codes "resources") d) ≡ []
  unfolding faults_before
  in_resources = nil_left _ (list_rule (codes "jobs") d) (nil_right (list_rule (codes "resources") d) _ (nil_right (unless (is_some (as_object d)) rule.Kind (codes "pipeline")) _ before))

  jobs : JobsFine (list_names (codes "resources") d) (list_names (codes "jobs") d) [] 0 (job_values (jobs_from d)) (list_at (codes "jobs") d)
  jobs =
      jobs_fine (list_names (codes "resources") d) (list_names (codes "jobs") d) [] 0 (list_at (codes "jobs") d) (nil_left _ _ after)
      (nil_right (members job_faults [] (codes "jobs") 0 (list_at (codes "jobs") d)) _ after)

  again_before : faults_before Again ≡ []
  unfolding faults_before list_rule
  again_before =
      both_nil _ _ (few_quiet (codes "resources") (resource_values (resources_from d)) _ (resources_counted (resources_from d)) (few_resources d none))
      (both_nil _ _ (resources_quiet [] 0 (list_at (codes "resources") d) in_resources)
      (few_quiet (codes "jobs") (job_values (jobs_from d)) _ (jobs_counted (jobs_from d)) (few_jobs d none)))

  again_known : unknown_in (list_names (codes "resources") Again) (list_names (codes "jobs") Again) Again ≡ []
  again_known = rw (resources_named [] 0 (list_at (codes "resources") d) in_resources, jobs.named) jobs.known

  again_faults : pipeline_faults Again ≡ []
  unfolding pipeline_faults
  again_faults = both_nil _ _ again_before (both_nil _ _ jobs.faults again_known)

  pub read_again : AreReadAgain (resources_from d) (jobs_from d)
  read_again = record {
    faults = again_faults;
    resources = resources_again (list_at (codes "resources") d);
    jobs = jobs_again (list_at (codes "jobs") d);
  }
