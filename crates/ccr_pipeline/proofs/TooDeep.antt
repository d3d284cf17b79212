-- A job whose first fault tells of depth has a plan that is too deep.
use Rattle.std.proofs.Common.{◌≡◌, ℕ, zero, suc, ◌<◌, ◌≤◌, List, [], ◌∷◌, Bool, true, false, nat_lt, Option, Some, None, max, arith, option_and_then, is_some, codes, if◌then◌else◌}
use Rattle.std.proofs.lemmas.Bool.Decides.{nat_tests}
use Rattle.std.specs.List.{AllByRecursion}
use Rattle.serde_json.specs.Data.{Data}
use Rattle.serde_json.specs.Find.{as_number, as_u64, as_i64}
use Rattle.ccr_pipeline.specs.declared.fault.Rule.TheVariants as rule
use Rattle.ccr_pipeline.specs.declared.step.When.{When}
use Rattle.ccr_pipeline.specs.Breaches.{IsDeepJob}
use Rattle.ccr_pipeline.specs.Faults.{Path}
use Rattle.ccr_pipeline.specs.JobRules.{job_rest}
use Rattle.ccr_pipeline.specs.Keys.{at_key, or_else, path_below}
use Rattle.ccr_pipeline.specs.Limits.{levels, levels_in}
use Rattle.ccr_pipeline.specs.Places.{Spot, tries_below}
use Rattle.ccr_pipeline.specs.Plans.{plan_to}
use Rattle.ccr_pipeline.specs.Steps.{step_tree, with_attempts, with_hooks, action}
use Rattle.ccr_pipeline.specs.StepRules.{depth_faults, attempts_faults}
use Rattle.ccr_pipeline.specs.Tree.{Tree, trees_of, hook, attempts}
use Rattle.ccr_pipeline.proofs.Given.{Gives, own-given, hooks-given, plan-given}
use Rattle.ccr_pipeline.proofs.Ordered.{one_kind}
use Rattle.ccr_pipeline.proofs.Quiet.{QuietStep, plan_quiet, hooks_quiet, step_quiet}
use Rattle.ccr_pipeline.proofs.QuietJobs.{rest_silent}
use Rattle.ccr_pipeline.proofs.Shallow.{Within, Below}
use Rattle.ccr_pipeline.proofs.Told.{Tells, Silent, silent_else, silent_unless, opening_silent, closing_silent}

left_most : (a b n : ℕ) → max a b ≤ n → a ≤ n
left_most a b n h = grind (arith, h)

right_most : (a b n : ℕ) → max a b ≤ n → b ≤ n
right_most a b n h = grind (arith, h)

all_below : (n : ℕ) (ts : List Tree) → levels_in (trees_of ts) ≤ n → AllByRecursion (Below n) ts
all_below n [] h = tt
all_below n (t ∷ ts) h =
    let one : suc (levels t) ≤ n = left_most _ (levels_in (trees_of ts)) n h in
    (omega (arith, one), all_below n ts (right_most (suc (levels t)) _ n h))

gives : (n : ℕ) → Gives (Within n) (Below n)
gives n = record { order = all_below n; parallel = λ ts fast h. all_below n ts h; trying = λ t h. omega (arith, h) }

in_hook : (n : ℕ) (w : When) (t h : Tree) → Within n (hook w t h) → Within n t × Below n h
in_hook n w t h a =
    let below : suc (levels h) ≤ n = right_most (levels t) _ n a in
    (left_most _ (suc (levels h)) n a, omega (arith, below))

in_attempts : (n : ℕ) (o : Option ℕ) (t : Tree) → Within n (or_else o t (λ m. attempts m t)) → Within n t
in_attempts n None t h = h
in_attempts n (Some m) t h = h

-- any visit is one of these
abbrev Any : Spot → Type 0
Any x = Unit {0}

any_all : (xs : List Spot) → AllByRecursion Any xs
any_all [] = tt
any_all (x ∷ xs) = (tt, any_all xs)

no_depth : (b : Bool) → (if b then rule.Attempts else rule.Kind) ≡ rule.Depth → ⊥
no_depth true e = cc (e)
no_depth false e = cc (e)

-- attempts tell of no depth
attempts_silent : (p : Path) (t : ℕ) (d : Data) → Silent rule.Depth (attempts_faults p t d)
attempts_silent p t d =
    silent_else rule.Depth (at_key (codes "attempts") d) _ _ (λ t. t)
    (λ found. silent_else rule.Depth (option_and_then as_u64 (as_number found)) _ _
    (no_depth (is_some (option_and_then as_i64 (as_number found))))
    (λ n. silent_unless rule.Depth _ rule.Attempts (path_below p (codes "attempts")) (no_depth true)))

-- a level is left
left_silent : (p : Path) (n : ℕ) → Silent rule.Depth (depth_faults p (suc n))
left_silent p n = let left : nat_lt 0 (suc n) ≡ true = grind (arith, nat_tests) in rw left (λ t. t)

-- a step that has no more levels than are left for the steps in it is quiet
quiet : (n t : ℕ) (d : Data) → levels (step_tree (suc n) d) < n → QuietStep rule.Depth Any n t d
unfolding step_tree
quiet zero t d h p = absurd (omega (arith, h))
quiet (suc n) t d h p =
    let rec : Data → Tree = step_tree (suc n) in
    let u : ℕ = tries_below t d in
    let whole : Within n (with_hooks rec d (with_attempts d (action rec d))) = omega (arith, h) in
    let hooks = hooks-given (QuietStep rule.Depth Any n u) (Within n) (Below n) rec (quiet n u) (in_hook n) d _ whole in
    let acted : Within n (action rec d) = in_attempts n (option_and_then as_u64 (option_and_then as_number (at_key (codes "attempts") d))) _ hooks.0 in
    step_quiet rule.Depth Any n t d p
    (λ names. opening_silent rule.Depth tt names p (suc n) d (left_silent p n))
    (λ names e. own-given (QuietStep rule.Depth Any n u) (Within n) (Below n) rec (quiet n u) (gives n) d (one_kind names p (suc n) d e) acted)
    (λ any. closing_silent rule.Depth tt p t d (attempts_silent p t d))
    hooks.1

not_deep : (p : Path) (d : Data) → levels (plan_to 31 d) ≤ 30 → Silent rule.Depth (job_rest p d)
not_deep p d h =
    let both = plan-given (QuietStep rule.Depth Any 30 1) (Within 30) (Below 30) (step_tree 31) (quiet 30 1) (in_hook 30) (gives 30) d h in
    rest_silent rule.Depth tt Any p d (plan_quiet rule.Depth Any p d both.0) (hooks_quiet rule.Depth Any p d both.1) (any_all _)

over : (n : ℕ) → (n ≤ 30 → ⊥) → 30 < n
over n h = omega (arith, h)

pub deep_job : (p : Path) (d : Data) → Tells rule.Depth (job_rest p d) → IsDeepJob d
deep_job p d told = over _ (λ h. not_deep p d h told)
