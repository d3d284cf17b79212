-- Where no fault is present in a resource or a job, it and its type have names, and its plan keeps the limits.
use Rattle.std.proofs.Common.{◌≡◌, ℕ, List, [], Bool, true, false, refl, IsTrue, is_some, codes}
use Rattle.std.proofs.lemmas.Bool.{and_from}
use Rattle.serde_json.specs.Data.{Data}
use Rattle.serde_json.specs.Find.{as_object}
use Rattle.ccr_pipeline.specs.declared.fault.Rule.{Rule}
use Rattle.ccr_pipeline.specs.declared.fault.Rule.TheVariants as rule
use Rattle.ccr_pipeline.specs.declared.schema.Kind.TheVariants as kind
use Rattle.ccr_pipeline.specs.declared.schema.Need.TheVariants.{New}
use Rattle.ccr_pipeline.specs.declared.schema.Schema.TheVariants as schema
use Rattle.ccr_pipeline.specs.Faults.{Path, unless}
use Rattle.ccr_pipeline.specs.JobRules.{resource_faults, job_rest, after_plan}
use Rattle.ccr_pipeline.specs.Objects.{row_faults, key_faults, object_faults, value_faults}
use Rattle.ccr_pipeline.specs.Pipelines.{IsResource, IsJob}
use Rattle.ccr_pipeline.specs.Places.{plan_steps, job_hooks}
use Rattle.ccr_pipeline.specs.Schema.{closing}
use Rattle.ccr_pipeline.specs.StepRules.{visits}
use Rattle.ccr_pipeline.proofs.Shallow.{shallow}
use Rattle.ccr_pipeline.proofs.Distinct.{distinct_inputs}
use Rattle.ccr_pipeline.proofs.Tries.{few_tries}
use Rattle.ccr_pipeline.proofs.Named.{well_named}
use Rattle.ccr_pipeline.proofs.Rows.{nil_left, nil_right, must_name, resource_named, job_named}
use Rattle.ccr_pipeline.proofs.Unfaulted.{Planned, planned}

holds : (b : Bool) (r : Rule) (p : Path) → unless b r p ≡ [] → IsTrue b
holds true r p e = refl
holds false r p e = cc

pub kept_job : (names : List (List ℕ)) (p : Path) (d : Data) → object_faults (value_faults 3) names schema.Job p d ≡ [] → job_rest p d ≡ [] → IsJob d
unfolding job_rest after_plan
kept_job names p d own rest =
    let plan : Planned d = planned p d rest in (
      (job_named names p d own).name,
      record {
        few = holds _ _ _ (nil_right (visits _ (job_hooks p d)) _ (nil_right (key_faults (value_faults 3) [] (closing schema.Job) p d) _ (nil_right (visits [] (plan_steps p d)) _ rest)));
        distinct = distinct_inputs p d rest;
        shallow = shallow d plan;
        few_tries = few_tries d plan;
        well_named = well_named p d rest;
      },
    )

pub kept_resource : (names : List (List ℕ)) (p : Path) (d : Data) → resource_faults names p d ≡ [] → IsResource d
unfolding object_faults
kept_resource names p d e =
    let keys = nil_right (unless (is_some (as_object d)) rule.Kind p) _ e in
    let rest = nil_right (row_faults (value_faults 3) names (New, kind.Name, codes "name") p d) _ keys in
    and_from _ _ (resource_named names p d e).name (must_name 2 [] p (codes "type") d (nil_left _ _ rest))
