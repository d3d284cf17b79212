-- What makes a plan too deep, and what makes its attempts bad.
use Rattle.std.specs.Prelude.{◌≡◌, ◌⊎◌, suc, ◌<◌, ◌++◌, Bool, false, not, ◌&&◌, Option, Some, None, is_some, option_and_then, codes, ⊤, IsTrue}
use Rattle.std.specs.List.{list_any}
use Rattle.serde_json.specs.Data.{Data, Items, no_items, item}
use Rattle.serde_json.specs.Find.{as_number, as_u64, as_i64}
use Rattle.ccr_pipeline.specs.declared.fault.Rule.{Rule}
use Rattle.ccr_pipeline.specs.declared.fault.Rule.TheVariants as rule
use Rattle.ccr_pipeline.specs.declared.walk.TheConstants.{LEVELS}
use Rattle.ccr_pipeline.specs.Faults.{Path}
use Rattle.ccr_pipeline.specs.Keys.{at_key, or_else, list_at}
use Rattle.ccr_pipeline.specs.Limits.{levels, TriesFit}
use Rattle.ccr_pipeline.specs.Places.{plan_steps, job_hooks}
use Rattle.ccr_pipeline.specs.Plans.{plan_to, plan_from}

-- some member of a list is so
abbrev pub SomeItem : (Data → Type 0) → Items → Type 0
SomeItem Is no_items = ⊥
SomeItem Is (item d ds) = Is d ⊎ SomeItem Is ds

-- the plan of a job is deeper than 30 levels: read one level further, it has more
abbrev pub IsDeepJob : Data → Type 0
IsDeepJob d = LEVELS < levels (plan_to (suc LEVELS) d)

-- the plan of some job is deeper than 30 levels
abbrev pub IsTooDeep : Data → Type 0
IsTooDeep d = SomeItem IsDeepJob (list_at (codes "jobs") d)

-- the attempts of a step are a whole number, but none from 0 on
abbrev pub is_negative : Data → Bool
is_negative d =
    or_else (at_key (codes "attempts") d) false
    (λ found. not (is_some (option_and_then as_u64 (as_number found)))
    && is_some (option_and_then as_i64 (as_number found)))

-- a job's attempts break their limits: those in its plan do, or a visited step has attempts below 0, which no plan has
abbrev pub HasBadTries : Data → Type 0
HasBadTries d =
    (TriesFit 1 (plan_from d) → ⊥)
    ⊎ ((p : Path) × IsTrue (list_any (λ x. is_negative x.step) (plan_steps p d ++ job_hooks p d)))

-- the attempts of some job break their limits
abbrev pub HasBadAttempts : Data → Type 0
HasBadAttempts d = SomeItem HasBadTries (list_at (codes "jobs") d)

-- a fault that tells of depth is of a plan that is too deep, and one that tells of attempts, of attempts that are bad
abbrev pub OfLimits : Data → Option (Rule × Path) → Type 0
OfLimits d None = ⊤
OfLimits d (Some f) = (f.0 ≡ rule.Depth → IsTooDeep d) × (f.0 ≡ rule.Attempts → HasBadAttempts d)
