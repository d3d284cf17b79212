-- Where no fault is present in a step's visits, none is in those of the steps in it.
use Rattle.std.proofs.Common.{◌≡◌, ℕ, suc, List, [], ◌++◌}
use Rattle.std.specs.List.{flat_map}
use Rattle.serde_json.specs.Data.{Data}
use Rattle.ccr_pipeline.specs.declared.schema.Schema.TheVariants as schema
use Rattle.ccr_pipeline.specs.Faults.{Path}
use Rattle.ccr_pipeline.specs.JobRules.{job_rest, after_plan}
use Rattle.ccr_pipeline.specs.Objects.{key_faults, value_faults}
use Rattle.ccr_pipeline.specs.Places.{Spot, gets_at, plan_steps, job_hooks, tries_below}
use Rattle.ccr_pipeline.specs.Schema.{closing}
use Rattle.ccr_pipeline.specs.StepRules.{visits, opening_faults, closing_faults}
use Rattle.ccr_pipeline.proofs.Inside.{OwnSteps, Hooks, Inside, Opened as OpenedBy, opened as opened_by, Planned as PlannedBy, planned as planned_by}
use Rattle.ccr_pipeline.proofs.Rows.{nil_left, nil_right}
use Rattle.ccr_pipeline.proofs.Visits.{visits-append}

-- no fault is present in visits, after gets of some names
abbrev pub IsUnfaulted : List Spot → Type 0
IsUnfaulted xs = (names : List (List ℕ)) × (visits names xs ≡ [])

pub unfaulted_parts : (xs ys : List Spot) → IsUnfaulted (xs ++ ys) → IsUnfaulted xs × IsUnfaulted ys
unfaulted_parts xs ys e =
    let parts : visits e.0 xs ++ visits (e.0 ++ flat_map gets_at xs) ys ≡ [] = rw (visits-append e.0 xs ys) at e.1 in
    ((e.0, nil_left _ _ parts), (e.0 ++ flat_map gets_at xs, nil_right _ _ parts))

-- no fault is present in the visits of a step with so many levels left, below steps of these attempts
abbrev pub Unfaulted : ℕ → ℕ → Data → Type 0
Unfaulted n t d = Inside IsUnfaulted n t d

-- what the visits of a step say of its own keys and of the steps in it
pub record Opened (n t : ℕ) (d : Data) : Type 0 where
  pub names : List (List ℕ)
  pub path : Path
  pub opening : opening_faults names path (suc n) d ≡ []
  pub own : OwnSteps (Unfaulted n (tries_below t d)) d
  pub closing : closing_faults path t d ≡ []
  pub hooks : Hooks (Unfaulted n (tries_below t d)) d

pub opened : (n t : ℕ) (d : Data) → Unfaulted (suc n) t d → Opened n t d
opened n t d u =
    let o : OpenedBy IsUnfaulted n t d = opened_by IsUnfaulted unfaulted_parts n t d u in
    record {
      names = o.opening.0;
      path = o.path;
      opening = nil_left (opening_faults o.opening.0 o.path (suc n) d) [] o.opening.1;
      own = o.own;
      closing = nil_left (closing_faults o.path t d) [] o.closing.1;
      hooks = o.hooks;
    }

-- what a job without a fault says of the steps of its plan and of its hooks
abbrev pub Planned : Data → Type 0
Planned d = PlannedBy IsUnfaulted d

pub unfaulted_plan : (p : Path) (d : Data) → job_rest p d ≡ [] → IsUnfaulted (plan_steps p d)
unfolding job_rest
unfaulted_plan p d e = ([], nil_left (visits [] (plan_steps p d)) _ e)

pub unfaulted_hooks : (p : Path) (d : Data) → job_rest p d ≡ [] → IsUnfaulted (job_hooks p d)
unfolding job_rest after_plan
unfaulted_hooks p d e =
    (_, nil_left (visits _ (job_hooks p d)) _ (nil_right (key_faults (value_faults 3) [] (closing schema.Job) p d) _ (nil_right (visits [] (plan_steps p d)) _ e)))

pub planned : (p : Path) (d : Data) → job_rest p d ≡ [] → Planned d
planned p d e = planned_by IsUnfaulted unfaulted_parts p d (unfaulted_plan p d e) (unfaulted_hooks p d e)
