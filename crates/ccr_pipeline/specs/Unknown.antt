-- Names of resources and jobs that the pipeline doesn't have.
use Rattle.std.specs.Prelude.{ℕ, ◌+◌, List, [], ◌∷◌, ◌++◌, ◌||◌, is_some, codes, if◌then◌else◌}
use Rattle.serde_json.specs.Data.{Data, Items, no_items, item}
use Rattle.serde_json.specs.Find.{as_str}
use Rattle.ccr_pipeline.specs.declared.fault.Rule.TheVariants as rule
use Rattle.ccr_pipeline.specs.Faults.{Path, Faults, unless}
use Rattle.ccr_pipeline.specs.Keys.{at_key, or_else, list_at, path_below, path_at}
use Rattle.ccr_pipeline.specs.Names.{text_at, has_name}
use Rattle.ccr_pipeline.specs.Places.{Part, Opening, Closing, Spot, all_steps}

-- the key that names the resource of a get or put
abbrev pub name_key : Data → List ℕ
name_key d =
    if is_some (at_key (codes "resource") d) then codes "resource" else
    (if is_some (at_key (codes "get") d) then codes "get" else codes "put")

-- a get or put of a resource that isn't there
unfoldable pub unknown_resource : List (List ℕ) → Path → Data → Faults
unknown_resource resources p d = if is_some (at_key (codes "get") d) || is_some (at_key (codes "put") d) then
    or_else (text_at (name_key d) d) []
    (λ name. unless (has_name resources name) rule.KnownResource (path_below p (name_key d))) else []

-- the texts of a list, from position i on, that are no jobs
abbrev pub unknown_texts : List (List ℕ) → Path → ℕ → Items → Faults
unknown_texts jobs p i no_items = []
unknown_texts jobs p i (item d ds) =
    or_else (as_str d) [] (λ name. unless (has_name jobs name) rule.KnownJob (path_at p i))
    ++ unknown_texts jobs p (i + 1) ds

-- the jobs that a get names in passed and that aren't there
unfoldable pub unknown_passed : List (List ℕ) → Path → Data → Faults
unknown_passed jobs p d = if is_some (at_key (codes "get") d) then
    unknown_texts jobs (path_below p (codes "passed")) 0 (list_at (codes "passed") d) else []

-- what a step names that isn't there
abbrev pub unknown_names : List (List ℕ) → List (List ℕ) → Path → Data → Faults
unknown_names resources jobs p d = unknown_resource resources p d ++ unknown_passed jobs p d

-- the first of the two visits of a step tells it
abbrev pub unknown_by : Part → List (List ℕ) → List (List ℕ) → Path → Data → Faults
unknown_by Opening resources jobs p d = unknown_names resources jobs p d
unknown_by Closing resources jobs p d = []

-- what the visited steps name that isn't there, in the order of the visits
abbrev pub unknown_spots : List (List ℕ) → List (List ℕ) → List Spot → Faults
unknown_spots resources jobs [] = []
unknown_spots resources jobs (x ∷ xs) =
    unknown_by x.part resources jobs x.path x.step ++ unknown_spots resources jobs xs

-- all jobs of a pipeline
abbrev pub unknown_in : List (List ℕ) → List (List ℕ) → Data → Faults
unknown_in resources jobs d = unknown_spots resources jobs (all_steps d)
