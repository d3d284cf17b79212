-- What holds of the step at the end of a path holds of the steps round it, if it goes up from each step to the one that it is in.
use Rattle.std.proofs.Common.{◌≡◌, ℕ, zero, suc, Bool, List, ◌∷◌, Option, Some, subst}
use Rattle.ccr_pipeline.specs.declared.step.When.{When}
use Rattle.ccr_pipeline.specs.Tree.{Tree, Trees, get, put, task, in_order, in_parallel, tried, attempts, hook, no_trees, tree}
use Rattle.ccr_steps.specs.declared.frame.Frame.{Frame}
use Rattle.ccr_steps.specs.declared.frame.Frame.TheVariants.{At, In, Left, Hook}
use Rattle.ccr_steps.specs.Frames.{leaf_at, leaf_in}

-- a fact of steps, and one of lists of steps, that go up to the step that has them
pub record GoesUp (P : Tree → Type 0) (Q : Trees → Type 0) : Type 0 where
  pub ordered : (ts : Trees) → Q ts → P (in_order ts)
  pub parallel : (ts : Trees) (fast : Bool) → Q ts → P (in_parallel ts fast)
  pub trying : (t : Tree) → P t → P (tried t)
  pub again : (n : ℕ) (t : Tree) → P t → P (attempts n t)
  pub hooked : (w : When) (t h : Tree) → P t → P (hook w t h)
  pub hooks : (w : When) (t h : Tree) → P h → P (hook w t h)
  pub here : (t : Tree) (ts : Trees) → P t → Q (tree t ts)
  pub later : (t : Tree) (ts : Trees) → Q ts → Q (tree t ts)

itself : (P : Tree → Type 0) (s t : Tree) → ◌≡◌ {A = Option Tree} (Some t) (Some s) → P s → P t
itself P s t e p =
    let same : s ≡ t = cc (e) in
    subst P same p

mutual
  pub goes_up : (P : Tree → Type 0) (Q : Trees → Type 0) → GoesUp P Q → (t : Tree) (fs : List Frame) (s : Tree) → leaf_at t fs ≡ Some s → P s → P t
  goes_up P Q up (get d) fs s e p = itself P s (get d) e p
  goes_up P Q up (put d) fs s e p = itself P s (put d) e p
  goes_up P Q up (task d) fs s e p = itself P s (task d) e p
  goes_up P Q up (in_order ts) (At k worst ∷ fs) s e p = up.ordered ts (goes_up_in P Q up ts k fs s e p)
  goes_up P Q up (in_parallel ts fast) (At k worst ∷ fs) s e p = up.parallel ts fast (goes_up_in P Q up ts k fs s e p)
  goes_up P Q up (tried t) (In ∷ fs) s e p = up.trying t (goes_up P Q up t fs s e p)
  goes_up P Q up (attempts n t) (Left k ∷ fs) s e p = up.again n t (goes_up P Q up t fs s e p)
  goes_up P Q up (hook w t h) (In ∷ fs) s e p = up.hooked w t h (goes_up P Q up t fs s e p)
  goes_up P Q up (hook w t h) (Hook end ∷ fs) s e p = up.hooks w t h (goes_up P Q up h fs s e p)
  goes_up P Q up t fs s e p = absurd (cc (e))

  goes_up_in : (P : Tree → Type 0) (Q : Trees → Type 0) → GoesUp P Q → (ts : Trees) (k : ℕ) (fs : List Frame) (s : Tree) → leaf_in ts k fs ≡ Some s → P s → Q ts
  goes_up_in P Q up no_trees k fs s e p = absurd (cc (e))
  goes_up_in P Q up (tree t ts) zero fs s e p = up.here t ts (goes_up P Q up t fs s e p)
  goes_up_in P Q up (tree t ts) (suc k) fs s e p = up.later t ts (goes_up_in P Q up ts k fs s e p)
