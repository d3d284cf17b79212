-- What is fine of the visits of a step is fine of those of the steps in it.
use Rattle.std.proofs.Common.{ℕ, suc, ◌+◌, List, [], ◌∷◌, ◌++◌, Option, Some, None, codes}
use Rattle.std.specs.Option.{IfSome}
use Rattle.serde_json.specs.Data.{Data, Items, no_items, item}
use Rattle.ccr_pipeline.specs.Faults.{Path}
use Rattle.ccr_pipeline.specs.Keys.{at_key, or_else, list_at, path_below, path_at}
use Rattle.ccr_pipeline.specs.Places.{Opening, Closing, Spot, spot_of, each_step, steps_in, step_at, own_steps, hook_steps, steps_from, plan_steps, job_hooks, tries_below}

-- each member of a list is so
abbrev pub EachItem : (Data → Type 0) → Items → Type 0
EachItem Is no_items = Unit {0}
EachItem Is (item d ds) = Is d × EachItem Is ds

-- what holds of each step that a step's own keys hold
pub record OwnSteps (P : Data → Type 0) (d : Data) : Type 0 where
  pub order : EachItem P (list_at (codes "do") d)
  pub parallel : EachItem P (list_at (codes "in_parallel") d)
  pub steps : IfSome (at_key (codes "in_parallel") d) (λ found. EachItem P (list_at (codes "steps") found))
  pub trying : IfSome (at_key (codes "try") d) P

-- what holds of each hook
pub record Hooks (P : Data → Type 0) (d : Data) : Type 0 where
  pub on_success : IfSome (at_key (codes "on_success") d) P
  pub on_failure : IfSome (at_key (codes "on_failure") d) P
  pub on_error : IfSome (at_key (codes "on_error") d) P
  pub on_abort : IfSome (at_key (codes "on_abort") d) P
  pub ensure : IfSome (at_key (codes "ensure") d) P

-- the visits of a step with so many levels left, below steps of these attempts, are fine
abbrev pub Inside : (List Spot → Type 0) → ℕ → ℕ → Data → Type 0
Inside Fine n t d = (p : Path) × Fine (steps_from n t p d)

-- the visits of a step's own keys and of the steps in it are fine
pub record Opened (Fine : List Spot → Type 0) (n t : ℕ) (d : Data) : Type 0 where
  pub path : Path
  pub opening : Fine (spot_of Opening path (suc n) t d ∷ [])
  pub own : OwnSteps (Inside Fine n (tries_below t d)) d
  pub closing : Fine (spot_of Closing path (suc n) t d ∷ [])
  pub hooks : Hooks (Inside Fine n (tries_below t d)) d

-- the visits of the steps of a job's plan and of its hooks are fine
pub record Planned (Fine : List Spot → Type 0) (d : Data) : Type 0 where
  pub steps : EachItem (Inside Fine 30 1) (list_at (codes "plan") d)
  pub hooks : Hooks (Inside Fine 30 1) d

module _ (Fine : List Spot → Type 0) (parts : (xs ys : List Spot) → Fine (xs ++ ys) → Fine xs × Fine ys) where
  module _ (n t : ℕ) where
    each : (p : Path) (i : ℕ) (ds : Items) → Fine (each_step (steps_from n) t p i ds) → EachItem (Inside Fine n t) ds
    each p i no_items f = tt
    each p i (item d ds) f =
        let both = parts (steps_from n t (path_at p i) d) (each_step (steps_from n) t p (i + 1) ds) f in
        ((path_at p i, both.0), each p (i + 1) ds both.1)

    at_list : (p : Path) (k : List ℕ) (d : Data) → Fine (steps_in (steps_from n) t p k d) → EachItem (Inside Fine n t) (list_at k d)
    unfolding steps_in
    at_list p k d f = each (path_below p k) 0 (list_at k d) f

    in_step : (p : Path) (o : Option Data) → Fine (or_else o [] (steps_from n t p)) → IfSome o (Inside Fine n t)
    in_step p None f = tt
    in_step p (Some d) f = (p, f)

    at_step : (p : Path) (k : List ℕ) (d : Data) → Fine (step_at (steps_from n) t p k d) → IfSome (at_key k d) (Inside Fine n t)
    unfolding step_at
    at_step p k d f = in_step (path_below p k) (at_key k d) f

    in_parallel : (p : Path) (o : Option Data) → Fine (or_else o [] (steps_in (steps_from n) t p (codes "steps"))) → IfSome o (λ found. EachItem (Inside Fine n t) (list_at (codes "steps") found))
    in_parallel p None f = tt
    in_parallel p (Some found) f = at_list p (codes "steps") found f

    in_hooks : (p : Path) (d : Data) → Fine (hook_steps (steps_from n) t p d) → Hooks (Inside Fine n t) d
    unfolding hook_steps
    in_hooks p d f =
        let one = parts (step_at (steps_from n) t p (codes "on_success") d) _ f in
        let two = parts (step_at (steps_from n) t p (codes "on_failure") d) _ one.1 in
        let three = parts (step_at (steps_from n) t p (codes "on_error") d) _ two.1 in
        let four = parts (step_at (steps_from n) t p (codes "on_abort") d) _ three.1 in
        record {
          on_success = at_step p (codes "on_success") d one.0;
          on_failure = at_step p (codes "on_failure") d two.0;
          on_error = at_step p (codes "on_error") d three.0;
          on_abort = at_step p (codes "on_abort") d four.0;
          ensure = at_step p (codes "ensure") d four.1;
        }

    in_own : (p : Path) (d : Data) → Fine (own_steps (steps_from n) t p d) → OwnSteps (Inside Fine n t) d
    unfolding own_steps
    in_own p d f =
        let one = parts (steps_in (steps_from n) t p (codes "do") d) _ f in
        let two = parts (steps_in (steps_from n) t p (codes "in_parallel") d) _ one.1 in
        let three = parts (or_else (at_key (codes "in_parallel") d) [] (steps_in (steps_from n) t (path_below p (codes "in_parallel")) (codes "steps"))) _ two.1 in
        record {
          order = at_list p (codes "do") d one.0;
          parallel = at_list p (codes "in_parallel") d two.0;
          steps = in_parallel (path_below p (codes "in_parallel")) (at_key (codes "in_parallel") d) three.0;
          trying = at_step p (codes "try") d three.1;
        }

  pub opened : (n t : ℕ) (d : Data) → Inside Fine (suc n) t d → Opened Fine n t d
  unfolding steps_from
  opened n t d f =
      let p = f.0 in
      let one = parts (spot_of Opening p (suc n) t d ∷ []) _ f.1 in
      let two = parts (own_steps (steps_from n) (tries_below t d) p d) _ one.1 in
      let three = parts (spot_of Closing p (suc n) t d ∷ []) _ two.1 in
      record {
        path = p;
        opening = one.0;
        own = in_own n (tries_below t d) p d two.0;
        closing = three.0;
        hooks = in_hooks n (tries_below t d) p d three.1;
      }

  pub planned : (p : Path) (d : Data) → Fine (plan_steps p d) → Fine (job_hooks p d) → Planned Fine d
  planned p d steps hooks = record { steps = at_list 30 1 p (codes "plan") d steps; hooks = in_hooks 30 1 p d hooks }
