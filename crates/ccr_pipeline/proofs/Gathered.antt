-- What the steps of a plan gather passes a test, where what a step without steps gives does.
use Rattle.std.proofs.Common.{◌≡◌, ℕ, zero, suc, List, [], ◌∷◌, ◌++◌, Bool, true, option_and_then, codes}
use Rattle.std.proofs.lemmas.List.Elements.{All-nil, All-cons, All-append}
use Rattle.std.specs.List.{AllByRecursion, AllPass}
use Rattle.serde_json.specs.Data.{Data}
use Rattle.serde_json.specs.Find.{as_number, as_u64}
use Rattle.ccr_pipeline.specs.declared.step.When.{When}
use Rattle.ccr_pipeline.specs.Faults.{Path}
use Rattle.ccr_pipeline.specs.Keys.{at_key}
use Rattle.ccr_pipeline.specs.Places.{Opening, Spot, spot_of, plan_steps, job_hooks, tries_below}
use Rattle.ccr_pipeline.specs.Plans.{plan_from}
use Rattle.ccr_pipeline.specs.Steps.{step_tree, action}
use Rattle.ccr_pipeline.specs.Tree.{Text, Tree, trees_of, hook, gathered, gathered_in}
use Rattle.ccr_pipeline.proofs.Inside.{Inside, Opened, opened, Planned, planned}
use Rattle.ccr_pipeline.proofs.Kept.{Holds, Leaves, attempts-kept, action-kept, hooks-kept, plan-kept}

module _ (passes : Text → Bool) where
  pub none : AllPass passes []
  none = All-nil (λ s. passes s ≡ true)

  pub more : (s : Text) (ss : List Text) → passes s ≡ true → AllPass passes ss → AllPass passes (s ∷ ss)
  more s ss h hs = All-cons (λ s. passes s ≡ true) s ss h hs

  pub one : (s : Text) → passes s ≡ true → AllPass passes (s ∷ [])
  one s h = more s [] h none

  pub and : (ss ts : List Text) → AllPass passes ss → AllPass passes ts → AllPass passes (ss ++ ts)
  and ss ts h g = All-append (λ s. passes s ≡ true) ss ts h g

  module _ (f : Tree → List Text) where
    -- what the step gathers passes
    abbrev pub InStep : Tree → Type 0
    InStep t = AllPass passes (gathered f t)

    all_in : (ts : List Tree) → AllByRecursion InStep ts → AllPass passes (gathered_in f (trees_of ts))
    all_in [] h = none
    all_in (t ∷ ts) h = and (gathered f t) _ h.0 (all_in ts h.1)

    holds : Holds InStep InStep
    holds = record { order = all_in; parallel = λ ts fast h. all_in ts h; trying = λ t h. h }

    in_hook : (w : When) (t h : Tree) → InStep t → InStep h → InStep (hook w t h)
    in_hook w t h a b = and (gathered f t) (gathered f h) a b

    module _ (Fine : List Spot → Type 0) (parts : (xs ys : List Spot) → Fine (xs ++ ys) → Fine xs × Fine ys) (leaves : (n t : ℕ) (d : Data) (p : Path) → Fine (spot_of Opening p (suc n) t d ∷ []) → Leaves InStep d) where
      in_step : (n t : ℕ) (d : Data) → Inside Fine n t d → InStep (step_tree n d)
      unfolding step_tree
      in_step zero t d fine = none
      in_step (suc n) t d fine =
          let o : Opened Fine n t d = opened Fine parts n t d fine in
          let acted = action-kept (Inside Fine n (tries_below t d)) InStep InStep (step_tree n) (in_step n (tries_below t d)) holds d (leaves n t d o.path o.opening) o.own in
          hooks-kept (Inside Fine n (tries_below t d)) InStep InStep (step_tree n) (in_step n (tries_below t d)) in_hook d _ o.hooks (attempts-kept InStep (λ m s h. h) (option_and_then as_u64 (option_and_then as_number (at_key (codes "attempts") d))) (action (step_tree n) d) acted)

      -- what a plan gathers passes, where the visits of its steps and its hooks are fine
      pub plan_passes : (p : Path) (d : Data) → Fine (plan_steps p d) → Fine (job_hooks p d) → InStep (plan_from d)
      unfolding plan_from
      plan_passes p d steps hooks =
          let plan : Planned Fine d = planned Fine parts p d steps hooks in
          plan-kept (Inside Fine 30 1) InStep InStep (step_tree 30) (in_step 30 1) holds in_hook d plan.steps plan.hooks
