-- What is broken in a step.
use Rattle.std.specs.Prelude.{ℕ, ◌*◌, List, [], ◌∷◌, ◌++◌, false, ◌&&◌, nat_le, nat_lt, count_by, is_some, option_and_then, codes, if◌then◌else◌}
use Rattle.serde_json.specs.Data.{Data}
use Rattle.serde_json.specs.Find.{as_object, as_number, as_u64, as_i64}
use Rattle.ccr_pipeline.specs.declared.fault.Rule.{Rule}
use Rattle.ccr_pipeline.specs.declared.fault.Rule.TheVariants as rule
use Rattle.ccr_pipeline.specs.declared.check_step.TheConstants.{MOST_ATTEMPTS, MOST_TRIES}
use Rattle.ccr_pipeline.specs.declared.schema.Schema.TheVariants as schema
use Rattle.ccr_pipeline.specs.declared.schema.TheConstants.{NESTED}
use Rattle.ccr_pipeline.specs.Faults.{Path, Faults, unless}
use Rattle.ccr_pipeline.specs.Keys.{at_key, or_else, path_below}
use Rattle.ccr_pipeline.specs.Objects.{key_faults, value_faults}
use Rattle.ccr_pipeline.specs.Places.{Part, Opening, Closing, Spot, gets_at}
use Rattle.ccr_pipeline.specs.Schema.{opening, closing, schema_of}

-- the keys that say a step's kind
abbrev pub kind_keys : List (List ℕ)
kind_keys = codes "get" ∷ codes "put" ∷ codes "task" ∷ codes "do" ∷ codes "in_parallel" ∷ codes "try" ∷ []

-- how many of them a step has
abbrev pub kinds : Data → ℕ
kinds d = count_by (λ k. is_some (at_key k d)) kind_keys

-- the keys before the steps that they hold, by the step's kind
abbrev pub own_keys : List (List ℕ) → Path → Data → Faults
own_keys names p d = key_faults (value_faults NESTED) names (opening (schema_of d)) p d

-- a level is left for the step
abbrev pub depth_faults : Path → ℕ → Faults
depth_faults p left = unless (nat_lt 0 left) rule.Depth p

-- a step has no key that isn't done here
abbrev pub undone_faults : Path → Data → Faults
undone_faults p d = key_faults (value_faults NESTED) [] (opening schema.Undone) p d

-- a step is an object, not too deep, without a key that isn't done here
unfoldable pub shape_faults : Path → ℕ → Data → Faults
shape_faults p left d =
    unless (is_some (as_object d)) rule.Kind p ++ (depth_faults p left ++ undone_faults p d)

-- a step is of one kind
unfoldable pub kind_faults : Path → Data → Faults
kind_faults p d = unless (nat_lt 0 (kinds d)) rule.OneStep p ++ unless (nat_lt (kinds d) 2) rule.OnlyOneStep p

-- what is broken before the steps in a step are read
unfoldable pub opening_faults : List (List ℕ) → Path → ℕ → Data → Faults
opening_faults names p left d = shape_faults p left d ++ (kind_faults p d ++ own_keys names p d)

-- a number that isn't from 0 on breaks the rule of attempts if it is whole, and that of kinds if not
abbrev pub no_count : Data → Rule
no_count d = if is_some (option_and_then as_i64 (as_number d)) then rule.Attempts else rule.Kind

-- attempts from 1 to 100, with those around at most 10,000
abbrev pub attempts_faults : Path → ℕ → Data → Faults
attempts_faults p tries d = or_else (at_key (codes "attempts") d) [] (λ found.
    or_else (option_and_then as_u64 (as_number found)) (unless false (no_count found) (path_below p (codes "attempts")))
    (λ n. unless (nat_le 1 n && (nat_le n MOST_ATTEMPTS && nat_le (tries * n) MOST_TRIES)) rule.Attempts
    (path_below p (codes "attempts"))))

-- the keys of the object of an in_parallel after its steps
abbrev pub parallel_rest : Path → Data → Faults
parallel_rest p d =
    or_else (at_key (codes "in_parallel") d) []
    (key_faults (value_faults NESTED) [] (closing schema.Parallel) (path_below p (codes "in_parallel")))

-- the keys after the steps of a step
unfoldable pub closing_faults : Path → ℕ → Data → Faults
closing_faults p tries d = parallel_rest p d ++ attempts_faults p tries d

-- what is broken at a visit
abbrev pub visit_by : Part → List (List ℕ) → Path → ℕ → ℕ → Data → Faults
visit_by Opening names p left tries d = opening_faults names p left d
visit_by Closing names p left tries d = closing_faults p tries d

-- what is broken at a visit, after gets of these names
abbrev pub visit_faults : List (List ℕ) → Spot → Faults
visit_faults names x = visit_by x.part names x.path x.levels x.tries x.step

-- what is broken in visits, after gets of these names
abbrev pub visits : List (List ℕ) → List Spot → Faults
visits names [] = []
visits names (x ∷ xs) = visit_faults names x ++ visits (names ++ gets_at x) xs
