-- What is broken in resources and jobs.
use Rattle.std.specs.Prelude.{ℕ, ◌+◌, List, [], ◌++◌, false, nat_le, codes}
use Rattle.std.specs.List.{flat_map}
use Rattle.serde_json.specs.Data.{Data, Items, no_items, item}
use Rattle.serde_json.specs.Events.{items_len}
use Rattle.serde_json.specs.Find.{as_array}
use Rattle.ccr_pipeline.specs.declared.fault.Rule.TheVariants as rule
use Rattle.ccr_pipeline.specs.declared.lists.TheConstants.{MOST_MEMBERS}
use Rattle.ccr_pipeline.specs.declared.schema.Schema.TheVariants as schema
use Rattle.ccr_pipeline.specs.declared.schema.TheConstants.{NESTED}
use Rattle.ccr_pipeline.specs.Faults.{Path, Faults, unless}
use Rattle.ccr_pipeline.specs.Inputs.{inputs, are_few}
use Rattle.ccr_pipeline.specs.Plans.{plan_from}
use Rattle.ccr_pipeline.specs.Keys.{at_key, or_else, list_at, path_below, path_at}
use Rattle.ccr_pipeline.specs.Names.{names_at}
use Rattle.ccr_pipeline.specs.Objects.{key_faults, object_faults, value_faults}
use Rattle.ccr_pipeline.specs.Places.{plan_steps, job_hooks, gets_at}
use Rattle.ccr_pipeline.specs.Schema.{closing}
use Rattle.ccr_pipeline.specs.StepRules.{visits}
use Rattle.ccr_pipeline.specs.Tree.{Tree}

-- a plan has at most 32 inputs, which name at most 32 jobs
abbrev pub too_many : Path → Tree → Faults
too_many p t = unless (are_few (inputs t)) rule.Number (path_below p (codes "plan"))

-- the job's keys after its plan, its hooks, and the number of its inputs and named jobs, where the plan's gets have
-- these names
unfoldable pub after_plan : List (List ℕ) → Path → Data → Faults
after_plan gets p d =
    key_faults (value_faults NESTED) [] (closing schema.Job) p d
    ++ (visits gets (job_hooks p d) ++ too_many p (plan_from d))

-- the steps of the plan, and what comes after it
unfoldable pub job_rest : Path → Data → Faults
job_rest p d = visits [] (plan_steps p d) ++ after_plan (flat_map gets_at (plan_steps p d)) p d

-- what is broken in a resource, after those of these names
abbrev pub resource_faults : List (List ℕ) → Path → Data → Faults
resource_faults names p d = object_faults (value_faults NESTED) names schema.Resource p d

-- what is broken in a job, after those of these names
abbrev pub job_faults : List (List ℕ) → Path → Data → Faults
job_faults names p d = object_faults (value_faults NESTED) names schema.Job p d ++ job_rest p d

-- what is broken in the members of a list from position i on, each by one, after those of these names
abbrev pub members : (List (List ℕ) → Path → Data → Faults) → List (List ℕ) → Path → ℕ → Items → Faults
members one names p i no_items = []
members one names p i (item d ds) =
    one names (path_at p i) d ++ members one (names ++ names_at (codes "name") d) p (i + 1) ds

-- a list of at most 200 members, if anything stands at the key
unfoldable pub list_rule : List ℕ → Data → Faults
list_rule k d = or_else (at_key k d) [] (λ found.
    or_else (as_array found) (unless false rule.Kind k)
    (λ ds. unless (nat_le (items_len ds) MOST_MEMBERS) rule.Number k))

-- the names of a list's members that have one
abbrev pub names_in : Items → List (List ℕ)
names_in no_items = []
names_in (item d ds) = names_at (codes "name") d ++ names_in ds

-- the names of the members of the list at a key
abbrev pub list_names : List ℕ → Data → List (List ℕ)
list_names k d = names_in (list_at k d)

-- a task file is a config
unfoldable pub config_faults : Path → Data → Faults
config_faults p d = object_faults (value_faults NESTED) [] schema.Config p d
