-- The steps of a job, each with its path, in the order of reading.
use Rattle.std.specs.Prelude.{ℕ, zero, suc, ◌+◌, ◌*◌, min, List, [], ◌∷◌, ◌++◌, ◌&&◌, nat_le, option_and_then, codes, if◌then◌else◌}
use Rattle.serde_json.specs.Data.{Data, Items, no_items, item}
use Rattle.serde_json.specs.Find.{as_number, as_u64}
use Rattle.ccr_pipeline.specs.declared.check_step.TheConstants.{MOST_ATTEMPTS, MOST_TRIES}
use Rattle.ccr_pipeline.specs.declared.walk.TheConstants.{LEVELS}
use Rattle.ccr_pipeline.specs.Faults.{Path}
use Rattle.ccr_pipeline.specs.Keys.{at_key, or_else, list_at, path_below, path_at}
use Rattle.ccr_pipeline.specs.Names.{names_at}

-- the two visits of a step in the order of reading: at its keys before the steps that they hold, and at those after
-- these steps, before its hooks
pub data Part : Type 0 where
  Opening : Part
  Closing : Part

-- a visit of a step: its path, how many levels are left, the product of the attempts above it, and its text
pub record Spot : Type 0 where
  pub part : Part
  pub path : Path
  pub levels : ℕ
  pub tries : ℕ
  pub step : Data

-- a visit, made of its parts
abbrev pub spot_of : Part → Path → ℕ → ℕ → Data → Spot
spot_of x p n t d = record { part = x; path = p; levels = n; tries = t; step = d }

-- what attempts count for the steps below: 1 where they aren't from 1 to 100
abbrev pub counted : Data → ℕ
counted d =
    or_else (option_and_then as_u64 (option_and_then as_number (at_key (codes "attempts") d))) 1
    (λ n. if nat_le 1 n && nat_le n MOST_ATTEMPTS then n else 1)

-- the product of attempts for the steps below, no further than one above the limit
abbrev pub tries_below : ℕ → Data → ℕ
tries_below t d = min (t * counted d) (MOST_TRIES + 1)

-- the steps of a list, each by rec from the product of attempts, its path and its text
abbrev pub each_step : (ℕ → Path → Data → List Spot) → ℕ → Path → ℕ → Items → List Spot
each_step rec t p i no_items = []
each_step rec t p i (item d ds) = rec t (path_at p i) d ++ each_step rec t p (i + 1) ds

-- the steps of the list at a key
unfoldable pub steps_in : (ℕ → Path → Data → List Spot) → ℕ → Path → List ℕ → Data → List Spot
steps_in rec t p k d = each_step rec t (path_below p k) 0 (list_at k d)

-- the step at a key
unfoldable pub step_at : (ℕ → Path → Data → List Spot) → ℕ → Path → List ℕ → Data → List Spot
step_at rec t p k d = or_else (at_key k d) [] (rec t (path_below p k))

-- the steps that a step's own keys hold
unfoldable pub own_steps : (ℕ → Path → Data → List Spot) → ℕ → Path → Data → List Spot
own_steps rec t p d =
    steps_in rec t p (codes "do") d ++ (steps_in rec t p (codes "in_parallel") d
    ++ (or_else (at_key (codes "in_parallel") d) []
    (steps_in rec t (path_below p (codes "in_parallel")) (codes "steps"))
    ++ step_at rec t p (codes "try") d))

-- the hooks of a step or a job
unfoldable pub hook_steps : (ℕ → Path → Data → List Spot) → ℕ → Path → Data → List Spot
hook_steps rec t p d =
    step_at rec t p (codes "on_success") d ++ (step_at rec t p (codes "on_failure") d
    ++ (step_at rec t p (codes "on_error") d ++ (step_at rec t p (codes "on_abort") d
    ++ step_at rec t p (codes "ensure") d)))

-- a step and those in it: its own keys, the steps that they hold, the keys after these, its hooks; what lies too deep
-- isn't looked into
unfoldable pub steps_from : ℕ → ℕ → Path → Data → List Spot
steps_from zero t p d = spot_of Opening p 0 t d ∷ []
steps_from (suc n) t p d =
    spot_of Opening p (suc n) t d ∷ (own_steps (steps_from n) (tries_below t d) p d
    ++ (spot_of Closing p (suc n) t d ∷ hook_steps (steps_from n) (tries_below t d) p d))

-- the name of a get, once for its two visits
abbrev pub gets_by : Part → Data → List (List ℕ)
gets_by Opening d = names_at (codes "get") d
gets_by Closing d = []

-- the name of the get that is visited, at the first of its two visits
abbrev pub gets_at : Spot → List (List ℕ)
gets_at x = gets_by x.part x.step

-- the steps of a job's plan: all levels are left, and no attempts are above
abbrev pub plan_steps : Path → Data → List Spot
plan_steps p d = steps_in (steps_from LEVELS) 1 p (codes "plan") d

-- those of its hooks
abbrev pub job_hooks : Path → Data → List Spot
job_hooks p d = hook_steps (steps_from LEVELS) 1 p d

-- the steps of jobs from position i on: those of a job's plan, and then those of its hooks
abbrev pub job_steps : ℕ → Items → List Spot
job_steps i no_items = []
job_steps i (item d ds) =
    (plan_steps (path_at (codes "jobs") i) d ++ job_hooks (path_at (codes "jobs") i) d) ++ job_steps (i + 1) ds

-- the steps of all jobs of a pipeline
abbrev pub all_steps : Data → List Spot
all_steps d = job_steps 0 (list_at (codes "jobs") d)
