-- What an abort leaves of a build.
use Rattle.std.specs.Prelude.{◌≡◌, ◌⊎◌, ℕ, zero, suc, List, [], ◌∷◌, ◌++◌, ⊤}
use Rattle.ccr_pipeline.specs.Tree.{Tree, Trees, get, put, task, in_order, in_parallel, tried, attempts, hook, no_trees, tree}
use Rattle.ccr_steps.specs.declared.outcome.Outcome.{Outcome}
use Rattle.ccr_steps.specs.declared.outcome.Outcome.TheVariants.{Aborted}
use Rattle.ccr_steps.specs.Asks.{aborted, Exchange, Chosen}
use Rattle.ccr_steps.specs.Gains.{GainsData}
use Rattle.ccr_steps.specs.Means.{Means}

-- a hook of the step, or of one in it, or of one in its hooks
abbrev mutual
  pub IsHookOf : Tree → Tree → Type 0
  IsHookOf (get d) h = ⊥
  IsHookOf (put p) h = ⊥
  IsHookOf (task t) h = ⊥
  IsHookOf (in_order ts) h = IsHookIn ts h
  IsHookOf (in_parallel ts fast) h = IsHookIn ts h
  IsHookOf (tried t) h = IsHookOf t h
  IsHookOf (attempts n t) h = IsHookOf t h
  IsHookOf (hook w t k) h = (h ≡ k) ⊎ (IsHookOf t h ⊎ IsHookOf k h)

  -- the same, of the steps of a list
  pub IsHookIn : Trees → Tree → Type 0
  IsHookIn no_trees h = ⊥
  IsHookIn (tree t ts) h = IsHookOf t h ⊎ IsHookIn ts h

-- a whole list of exchanges of a step that is a hook
abbrev pub OfHook : Chosen → (Tree → Type 0) → List Exchange → Type 0
OfHook c H es = (h : Tree) × (g : GainsData) × (o : Outcome) × (g' : GainsData) × H h × Means c h g es o g'

-- so many whole lists of hooks, one after another
abbrev pub OfHooks : ℕ → Chosen → (Tree → Type 0) → List Exchange → Type 0
OfHooks zero c H es = es ≡ []
OfHooks (suc n) c H es =
    (front back : List Exchange) × (es ≡ front ++ back) × OfHook c H front × OfHooks n c H back

-- only hooks ran, each to its end
abbrev pub AreOfHooks : Chosen → (Tree → Type 0) → List Exchange → Type 0
AreOfHooks c H es = (n : ℕ) × OfHooks n c H es

-- an exchange was aborted
abbrev pub HasAbort : List Exchange → Type 0
HasAbort [] = ⊥
HasAbort (e ∷ es) = (e.answer ≡ aborted) ⊎ HasAbort es

-- what comes after each exchange that was aborted is so
abbrev pub AfterAborts : (List Exchange → Type 0) → List Exchange → Type 0
AfterAborts P [] = ⊤
AfterAborts P (e ∷ es) = (e.answer ≡ aborted → P es) × AfterAborts P es

-- AN ABORT LEAVES ONLY HOOKS TO RUN: where an exchange of a whole list was aborted, whole lists of the plan's hooks
-- come after it and nothing else, and the outcome is aborted
abbrev pub LeavesHooks : Chosen → Tree → List Exchange → Outcome → Type 0
LeavesHooks c t es o = AfterAborts (AreOfHooks c (IsHookOf t)) es × (HasAbort es → o ≡ Aborted)
