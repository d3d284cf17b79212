-- Where the steps in a step break no rule of limits first, the whole step doesn't.
use Rattle.std.proofs.Common.{◌≡◌, ℕ, suc, ◌+◌, List, [], ◌∷◌, ◌++◌, Option, Some, None, codes}
use Rattle.std.specs.List.{AllByRecursion, flat_map}
use Rattle.std.specs.Option.{IfSome}
use Rattle.serde_json.specs.Data.{Data, Items, no_items, item}
use Rattle.ccr_pipeline.specs.declared.fault.Rule.{Rule}
use Rattle.ccr_pipeline.specs.Faults.{Path}
use Rattle.ccr_pipeline.specs.Keys.{at_key, or_else, list_at, path_below, path_at}
use Rattle.ccr_pipeline.specs.Places.{Opening, Closing, Spot, spot_of, gets_at, gets_by, each_step, steps_in, step_at, own_steps, hook_steps, steps_from, plan_steps, job_hooks, tries_below}
use Rattle.ccr_pipeline.specs.StepRules.{visits, opening_faults, closing_faults}
use Rattle.ccr_pipeline.proofs.Inside.{EachItem, OwnSteps, Hooks}
use Rattle.ccr_pipeline.proofs.Told.{Silent, silent_append, silent_then}
use Rattle.ccr_pipeline.proofs.Visits.{visits-append}

pub left_all : {A : Type 0} (P : A → Type 0) (xs ys : List A) → AllByRecursion P (xs ++ ys) → AllByRecursion P xs
left_all P [] ys h = tt
left_all P (x ∷ xs) ys h = (h.0, left_all P xs ys h.1)

pub right_all : {A : Type 0} (P : A → Type 0) (xs ys : List A) → AllByRecursion P (xs ++ ys) → AllByRecursion P ys
right_all P [] ys h = h
right_all P (x ∷ xs) ys h = right_all P xs ys h.1

-- the first fault of these visits doesn't break the rule, where each of them is so
abbrev pub Quiet : Rule → (Spot → Type 0) → List Spot → Type 0
Quiet r Is xs = AllByRecursion Is xs → (names : List (List ℕ)) → Silent r (visits names xs)

-- wherever it stands, a step with so many levels left is quiet
abbrev pub QuietStep : Rule → (Spot → Type 0) → ℕ → ℕ → Data → Type 0
QuietStep r Is n t d = (p : Path) → Quiet r Is (steps_from n t p d)

module _ (r : Rule) (Is : Spot → Type 0) where
  append : (xs ys : List Spot) → Quiet r Is xs → Quiet r Is ys → Quiet r Is (xs ++ ys)
  append xs ys h g all names =
      rw (visits-append names xs ys)
      (silent_append r (visits names xs) _ (h (left_all Is xs ys all) names) (g (right_all Is xs ys all) (names ++ flat_map gets_at xs)))

  none : Quiet r Is []
  none all names = λ t. t

  module _ (n t : ℕ) where
    each : (p : Path) (i : ℕ) (ds : Items) → EachItem (QuietStep r Is n t) ds → Quiet r Is (each_step (steps_from n) t p i ds)
    each p i no_items h = none
    each p i (item d ds) h = append (steps_from n t (path_at p i) d) _ (h.0 (path_at p i)) (each p (i + 1) ds h.1)

    at_list : (p : Path) (k : List ℕ) (d : Data) → EachItem (QuietStep r Is n t) (list_at k d) → Quiet r Is (steps_in (steps_from n) t p k d)
    unfolding steps_in
    at_list p k d h = each (path_below p k) 0 (list_at k d) h

    in_step : (p : Path) (o : Option Data) → IfSome o (QuietStep r Is n t) → Quiet r Is (or_else o [] (steps_from n t p))
    in_step p None h = none
    in_step p (Some d) h = h p

    at_step : (p : Path) (k : List ℕ) (d : Data) → IfSome (at_key k d) (QuietStep r Is n t) → Quiet r Is (step_at (steps_from n) t p k d)
    unfolding step_at
    at_step p k d h = in_step (path_below p k) (at_key k d) h

    in_parallel : (p : Path) (o : Option Data) → IfSome o (λ found. EachItem (QuietStep r Is n t) (list_at (codes "steps") found)) → Quiet r Is (or_else o [] (steps_in (steps_from n) t p (codes "steps")))
    in_parallel p None h = none
    in_parallel p (Some found) h = at_list p (codes "steps") found h

    in_hooks : (p : Path) (d : Data) → Hooks (QuietStep r Is n t) d → Quiet r Is (hook_steps (steps_from n) t p d)
    unfolding hook_steps
    in_hooks p d h =
        append _ _ (at_step p (codes "on_success") d h.on_success)
        (append _ _ (at_step p (codes "on_failure") d h.on_failure)
        (append _ _ (at_step p (codes "on_error") d h.on_error)
        (append _ _ (at_step p (codes "on_abort") d h.on_abort) (at_step p (codes "ensure") d h.ensure))))

    in_own : (p : Path) (d : Data) → OwnSteps (QuietStep r Is n t) d → Quiet r Is (own_steps (steps_from n) t p d)
    unfolding own_steps
    in_own p d h =
        append _ _ (at_list p (codes "do") d h.order)
        (append _ _ (at_list p (codes "in_parallel") d h.parallel)
        (append _ _ (in_parallel (path_below p (codes "in_parallel")) (at_key (codes "in_parallel") d) h.steps)
        (at_step p (codes "try") d h.trying)))

  pub plan_quiet : (p : Path) (d : Data) → EachItem (QuietStep r Is 30 1) (list_at (codes "plan") d) → Quiet r Is (plan_steps p d)
  plan_quiet p d h = at_list 30 1 p (codes "plan") d h

  pub hooks_quiet : (p : Path) (d : Data) → Hooks (QuietStep r Is 30 1) d → Quiet r Is (job_hooks p d)
  hooks_quiet p d h = in_hooks 30 1 p d h

  -- what a step says before the steps in it is told before what they say
  module _ (n t : ℕ) (d : Data) (p : Path) where
    after : OwnSteps (QuietStep r Is n (tries_below t d)) d → (Is (spot_of Closing p (suc n) t d) → Silent r (closing_faults p t d)) → Hooks (QuietStep r Is n (tries_below t d)) d → Quiet r Is (own_steps (steps_from n) (tries_below t d) p d ++ (spot_of Closing p (suc n) t d ∷ hook_steps (steps_from n) (tries_below t d) p d))
    after own closing hooks =
        append (own_steps (steps_from n) (tries_below t d) p d) _ (in_own n (tries_below t d) p d own)
        (λ all names. silent_append r (closing_faults p t d) _ (closing all.0) (in_hooks n (tries_below t d) p d hooks all.1 (names ++ [])))

    pub step_quiet : ((names : List (List ℕ)) → Silent r (opening_faults names p (suc n) d)) → ((names : List (List ℕ)) → opening_faults names p (suc n) d ≡ [] → OwnSteps (QuietStep r Is n (tries_below t d)) d) → (Is (spot_of Closing p (suc n) t d) → Silent r (closing_faults p t d)) → Hooks (QuietStep r Is n (tries_below t d)) d → Quiet r Is (steps_from (suc n) t p d)
    unfolding steps_from
    step_quiet opening own closing hooks all names =
        silent_then r (opening_faults names p (suc n) d) _ (opening names)
        (λ e. after (own names e) closing hooks all.1 (names ++ gets_by Opening d))
