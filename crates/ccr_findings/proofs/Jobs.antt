-- What is found in a job after its name.
use Rattle.std.proofs.Common.{◌≡◌, ◌∙◌, ℕ, ◌+◌, List, [], ◌++◌, refl, sym, ap, append_assoc, codes, Result, OnOk}
use Rattle.std.proofs.lemmas.Grind.{flat_map-append}
use Rattle.std.proofs.lemmas.Result.{on_ok_weaker}
use Rattle.std.specs.List.{flat_map}
use Rattle.serde_json.specs.Data.{Data, Items, item}
use Rattle.ccr_pipeline.specs.declared.schema.Schema.TheVariants as schema
use Rattle.ccr_pipeline.specs.declared.schema.TheConstants.{NESTED}
use Rattle.ccr_pipeline.specs.Faults.{Path, Faults}
use Rattle.ccr_pipeline.specs.JobRules.{too_many, after_plan, job_rest, job_faults, members}
use Rattle.ccr_pipeline.specs.Keys.{path_at}
use Rattle.ccr_pipeline.specs.Names.{names_at}
use Rattle.ccr_pipeline.specs.Objects.{key_faults, object_faults, value_faults}
use Rattle.ccr_pipeline.specs.Places.{Spot, gets_at, plan_steps, job_hooks, job_steps}
use Rattle.ccr_pipeline.specs.Plans.{plan_from}
use Rattle.ccr_pipeline.specs.Schema.{closing}
use Rattle.ccr_pipeline.specs.StepRules.{visits}
use Rattle.ccr_pipeline.specs.Tree.{Text, Tree}
use Rattle.ccr_pipeline.specs.Unknown.{unknown_spots}
use Rattle.ccr_findings.specs.Hunts.{HuntData, with_found, with_plan}
use Rattle.ccr_pipeline.proofs.NoteLemmas.{unknown_append}

-- with these gets met
abbrev pub with_gets : HuntData → List Text → HuntData
with_gets h gets = record {
  present = h.present;
  unknown = h.unknown;
  gets = gets;
  resources = h.resources;
  jobs = h.jobs;
}

-- with these faults for the present ones
abbrev pub with_present : HuntData → Faults → HuntData
with_present h fs = record {
  present = fs;
  unknown = h.unknown;
  gets = h.gets;
  resources = h.resources;
  jobs = h.jobs;
}

-- a walk, faults of keys, another walk, and more faults
abbrev pub with_both : HuntData → List Spot → List Spot → Faults → Faults → HuntData
with_both h xs ys keys few = record {
  present = h.present ++ (visits [] xs ++ (keys ++ (visits (flat_map gets_at xs) ys ++ few)));
  unknown = h.unknown ++ unknown_spots h.resources h.jobs (xs ++ ys);
  gets = flat_map gets_at (xs ++ ys);
  resources = h.resources;
  jobs = h.jobs;
}

-- the first walk, and the faults of keys
abbrev to_keys : HuntData → List Spot → Faults → HuntData
to_keys h xs keys =
    let a = with_found (with_gets h []) xs in
    with_present a (a.present ++ keys)

found_both : (h : HuntData) (xs ys : List Spot) (keys few : Faults) → with_present (with_found (to_keys h xs keys) ys) ((with_found (to_keys h xs keys) ys).present ++ few) ≡ with_both h xs ys keys few
unfolding with_found
found_both h xs ys keys few =
    rw (unknown_append h.resources h.jobs xs ys, flat_map-append, append_assoc, append_assoc, append_assoc, append_assoc) refl

-- one after the other
walked_both : (h a c : HuntData) (gets : List Text) (xs ys : List Spot) (keys few after many : Faults) → gets ≡ [] → a ≡ with_found (with_gets h gets) xs → after ≡ a.present ++ keys → c ≡ with_found (with_present a after) ys → many ≡ c.present ++ few → with_present c many ≡ with_both h xs ys keys few
walked_both h a c gets xs ys keys few after many none one own two more =
    rw (more, two, own, one, none) (found_both h xs ys keys few)

-- what a job's keys after its plan break
abbrev pub keys_after : Path → Data → Faults
keys_after p d = key_faults (value_faults NESTED) [] (closing schema.Job) p d

plan_is : (h : HuntData) (p : Path) (d : Data) → with_both h (plan_steps p d) (job_hooks p d) (keys_after p d) (too_many p (plan_from d)) ≡ with_plan h p d
unfolding with_plan job_rest after_plan
plan_is h p d = refl

-- a job's plan, its other keys, its hooks, and the number of its inputs and named jobs
found_plan : (h a c : HuntData) (gets : List Text) (after many : Faults) (t : Tree) (p : Path) (d : Data) → gets ≡ [] → a ≡ with_found (with_gets h gets) (plan_steps p d) → after ≡ a.present ++ keys_after p d → c ≡ with_found (with_present a after) (job_hooks p d) → t ≡ plan_from d → many ≡ c.present ++ too_many p t → with_present c many ≡ with_plan h p d
found_plan h a c gets after many t p d none plan own hooks tree few =
    walked_both h a c gets (plan_steps p d) (job_hooks p d) (keys_after p d) (too_many p t) after many none plan own hooks few
    ∙ (ap (λ x. with_both h (plan_steps p d) (job_hooks p d) (keys_after p d) (too_many p x)) tree ∙ plan_is h p d)

-- the same where the last may run out of memory
pub planned : {T E : Type 0} (r : Result T E) (h a c : HuntData) (gets : List Text) (after many : Faults) (t : Tree) (p : Path) (d : Data) → gets ≡ [] → a ≡ with_found (with_gets h gets) (plan_steps p d) → after ≡ a.present ++ keys_after p d → c ≡ with_found (with_present a after) (job_hooks p d) → t ≡ plan_from d → OnOk r (many ≡ c.present ++ too_many p t) → OnOk r (with_present c many ≡ with_plan h p d)
planned r h a c gets after many t p d none plan own hooks tree few =
    on_ok_weaker r (λ is. found_plan h a c gets after many t p d none plan own hooks tree is) few

present_at : (h e : HuntData) (old : Faults) (names : List Text) (p : Path) (d : Data) → h.present ≡ old ++ object_faults (value_faults NESTED) names schema.Job p d → e ≡ with_plan h p d → e.present ≡ old ++ job_faults names p d
unfolding with_plan
present_at h e old names p d own is =
    ap (λ x. x.present) is
    ∙ (ap (λ x. x ++ job_rest p d) own ∙ append_assoc old (object_faults (value_faults NESTED) names schema.Job p d) (job_rest p d))

pub job_present : {T E : Type 0} (r : Result T E) (h e : HuntData) (old : Faults) (names : List Text) (p : Path) (d : Data) → h.present ≡ old ++ object_faults (value_faults NESTED) names schema.Job p d → OnOk r (e ≡ with_plan h p d) → OnOk r (e.present ≡ old ++ job_faults names p d)
job_present r h e old names p d own is = on_ok_weaker r (λ same. present_at h e old names p d own same) is

pub job_unknown : {T E : Type 0} (r : Result T E) (h e : HuntData) (p : Path) (d : Data) → OnOk r (e ≡ with_plan h p d) → OnOk r (e.unknown ≡ h.unknown ++ unknown_spots h.resources h.jobs (plan_steps p d ++ job_hooks p d))
unfolding with_plan
job_unknown r h e p d is = on_ok_weaker r (λ same. rw same refl) is

pub job_resources : {T E : Type 0} (r : Result T E) (h e : HuntData) (p : Path) (d : Data) → OnOk r (e ≡ with_plan h p d) → OnOk r (e.resources ≡ h.resources)
unfolding with_plan
job_resources r h e p d is = on_ok_weaker r (λ same. rw same refl) is

pub job_jobs : {T E : Type 0} (r : Result T E) (h e : HuntData) (p : Path) (d : Data) → OnOk r (e ≡ with_plan h p d) → OnOk r (e.jobs ≡ h.jobs)
unfolding with_plan
job_jobs r h e p d is = on_ok_weaker r (λ same. rw same refl) is

-- what is left of the members of a list, after one of them
pub members_on : (one : List Text → Path → Data → Faults) (fs gs all : Faults) (names others : List Text) (p : Path) (i : ℕ) (d : Data) (ds : Items) → fs ++ members one names p i (item d ds) ≡ all → gs ≡ fs ++ one names (path_at p i) d → others ≡ names ++ names_at (codes "name") d → gs ++ members one others p (i + 1) ds ≡ all
members_on one fs gs all names others p i d ds goes found named = rw (found, named, append_assoc) goes

-- what is left of walks over steps, after one of them
walks_on : (resources jobs : List Text) (fs gs all : Faults) (xs ys : List Spot) → fs ++ unknown_spots resources jobs (xs ++ ys) ≡ all → gs ≡ fs ++ unknown_spots resources jobs xs → gs ++ unknown_spots resources jobs ys ≡ all
walks_on resources jobs fs gs all xs ys goes found =
    rw (found, append_assoc, sym (unknown_append resources jobs xs ys)) goes

pub unknown_on : (resources jobs rs js : List Text) (fs gs all : Faults) (i : ℕ) (d : Data) (ds : Items) → rs ≡ resources → js ≡ jobs → fs ++ unknown_spots resources jobs (job_steps i (item d ds)) ≡ all → gs ≡ fs ++ unknown_spots rs js (plan_steps (path_at (codes "jobs") i) d ++ job_hooks (path_at (codes "jobs") i) d) → gs ++ unknown_spots resources jobs (job_steps (i + 1) ds) ≡ all
unknown_on resources jobs rs js fs gs all i d ds same also goes found =
    walks_on resources jobs fs gs all (plan_steps (path_at (codes "jobs") i) d ++ job_hooks (path_at (codes "jobs") i) d) (job_steps (i + 1) ds) goes
    (found ∙ (ap (λ x. fs ++ unknown_spots x js (plan_steps (path_at (codes "jobs") i) d ++ job_hooks (path_at (codes "jobs") i) d)) same
    ∙ ap (λ x. fs ++ unknown_spots resources x (plan_steps (path_at (codes "jobs") i) d ++ job_hooks (path_at (codes "jobs") i) d)) also))
