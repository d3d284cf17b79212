-- The plan that a job is read as, where no fault is present in it, and the inputs that its text says.
use Rattle.std.specs.Prelude.{ℕ, ◌+◌, List, [], ◌∷◌, ◌++◌, is_some, codes, if◌then◌else◌}
use Rattle.std.specs.List.{flat_map}
use Rattle.serde_json.specs.Data.{Data, Items, no_items, item}
use Rattle.ccr_pipeline.specs.declared.walk.TheConstants.{LEVELS}
use Rattle.ccr_pipeline.specs.Inputs.{InputData, input_from}
use Rattle.ccr_pipeline.specs.Keys.{at_key, list_at, path_at}
use Rattle.ccr_pipeline.specs.Meaning.{get_from}
use Rattle.ccr_pipeline.specs.Places.{Part, Opening, Closing, Spot, plan_steps, job_hooks}
use Rattle.ccr_pipeline.specs.Steps.{with_hooks, each_tree, step_tree}
use Rattle.ccr_pipeline.specs.Tree.{Tree, in_order, trees_of}

-- the plan of a job, each of its steps of so many levels: a do, in the job's hooks
abbrev pub plan_to : ℕ → Data → Tree
plan_to n d = with_hooks (step_tree n) d (in_order (trees_of (each_tree (step_tree n) (list_at (codes "plan") d))))

-- the plan as it is read
unfoldable pub plan_from : Data → Tree
plan_from d = plan_to LEVELS d

-- the input of a get, at the first of its two visits
abbrev pub input_by : Part → Data → List InputData
input_by Opening d = if is_some (at_key (codes "get") d) then input_from (get_from d) ∷ [] else []
input_by Closing d = []

-- the input of the get that is visited, if it is one
abbrev pub input_at : Spot → List InputData
input_at x = input_by x.part x.step

-- the inputs of jobs from position i on, each job's by itself: the gets of its text, in the order in which they are
-- read
abbrev pub inputs_read : ℕ → Items → List (List InputData)
inputs_read i no_items = []
inputs_read i (item d ds) =
    flat_map input_at (plan_steps (path_at (codes "jobs") i) d ++ job_hooks (path_at (codes "jobs") i) d)
    ∷ inputs_read (i + 1) ds
