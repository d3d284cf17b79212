-- Where no fault is present in a plan, its steps lie at most 30 levels deep.
use Rattle.std.proofs.Common.{◌≡◌, ℕ, zero, suc, ◌<◌, ◌≤◌, List, [], ◌∷◌, max, arith, option_and_then, is_some, codes}
use Rattle.std.specs.List.{AllByRecursion}
use Rattle.serde_json.specs.Data.{Data}
use Rattle.serde_json.specs.Find.{as_number, as_u64, as_object}
use Rattle.ccr_pipeline.specs.declared.step.When.{When}
use Rattle.ccr_pipeline.specs.declared.fault.Rule.TheVariants as rule
use Rattle.ccr_pipeline.specs.Faults.{Path, unless}
use Rattle.ccr_pipeline.specs.Keys.{at_key}
use Rattle.ccr_pipeline.specs.Limits.{levels, levels_in, IsShallow}
use Rattle.ccr_pipeline.specs.Steps.{step_tree, with_attempts, with_hooks, action}
use Rattle.ccr_pipeline.specs.Plans.{plan_from}
use Rattle.ccr_pipeline.specs.StepRules.{shape_faults, opening_faults}
use Rattle.ccr_pipeline.specs.Places.{steps_from, tries_below}
use Rattle.ccr_pipeline.specs.Tree.{Tree, trees_of, hook}
use Rattle.ccr_pipeline.proofs.Kept.{Holds, Leaves, attempts-kept, action-kept, hooks-kept, plan-kept}
use Rattle.ccr_pipeline.proofs.Rows.{nil_left, nil_right}
use Rattle.ccr_pipeline.proofs.Unfaulted.{Unfaulted, Opened, opened, Planned}

-- at most so many levels
abbrev pub Within : ℕ → Tree → Type 0
Within n t = levels t ≤ n

-- fewer levels
abbrev pub Below : ℕ → Tree → Type 0
Below n t = levels t < n

most : (a b n : ℕ) → a ≤ n → b ≤ n → max a b ≤ n
most a b n h g = grind (arith, h, g)

all_within : (n : ℕ) (ts : List Tree) → AllByRecursion (Below n) ts → levels_in (trees_of ts) ≤ n
all_within n [] h = omega arith
all_within n (t ∷ ts) h = most _ _ n (omega (arith, h.0)) (all_within n ts h.1)

holds : (n : ℕ) → Holds (Within n) (Below n)
holds n = record { order = all_within n; parallel = λ ts fast h. all_within n ts h; trying = λ t h. omega (arith, h) }

leaves : (n : ℕ) (d : Data) → Leaves (Within n) d
leaves n d = record { getting = λ a. omega arith; putting = λ a b. omega arith; doing = λ a b c. omega arith }

hook_within : (n : ℕ) (w : When) (t h : Tree) → Within n t → Below n h → Within n (hook w t h)
hook_within n w t h a b = most _ _ n a (omega (arith, b))

pub no_level : (names : List (List ℕ)) (p : Path) (d : Data) → opening_faults names p 0 d ≡ [] → ⊥
unfolding opening_faults shape_faults
no_level names p d e =
    let shape : shape_faults p 0 d ≡ [] = nil_left _ _ e in
    let depth : (rule.Depth, p) ∷ [] ≡ [] = nil_left _ _ (nil_right (unless (is_some (as_object d)) rule.Kind p) _ shape) in
    absurd (cc (depth))

below : (n t : ℕ) (d : Data) → Unfaulted n t d → Below n (step_tree n d)
unfolding step_tree steps_from
below zero t d u = absurd (no_level u.1.0 u.0 d (nil_left _ _ u.1.1))
below (suc n) t d u =
    let o : Opened n t d = opened n t d u in
    let rec : Data → Tree = step_tree n in
    let acted : Within n (action rec d) = action-kept (Unfaulted n (tries_below t d)) (Within n) (Below n) rec (below n (tries_below t d)) (holds n) d (leaves n d) o.own in
    let tried : Within n (with_attempts d (action rec d)) = attempts-kept (Within n) (λ m s h. h) (option_and_then as_u64 (option_and_then as_number (at_key (codes "attempts") d))) _ acted in
    let hooked : Within n (with_hooks rec d (with_attempts d (action rec d))) = hooks-kept (Unfaulted n (tries_below t d)) (Within n) (Below n) rec (below n (tries_below t d)) (hook_within n) d _ o.hooks tried in
    omega (arith, hooked)

pub shallow : (d : Data) → Planned d → IsShallow (plan_from d)
unfolding plan_from
shallow d plan = plan-kept (Unfaulted 30 1) (Within 30) (Below 30) (step_tree 30) (below 30 1) (holds 30) (hook_within 30) d plan.steps plan.hooks
