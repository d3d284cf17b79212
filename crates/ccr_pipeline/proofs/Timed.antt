-- A step whose timeouts stay, or are left out.
use Rattle.std.proofs.Common.{◌≡◌, Bool, true, false, List, [], ◌∷◌, ◌++◌, map, Option, None, refl, ap, ap₂}
use Rattle.ccr_pipeline.specs.declared.step.When.TheVariants.{OnError, OnAbort}
use Rattle.ccr_pipeline.specs.Inputs.{inputs, inputs_in}
use Rattle.ccr_pipeline.specs.JobData.{JobData}
use Rattle.ccr_pipeline.specs.Tree.{Text, Tree, Trees, get, put, task, in_order, in_parallel, tried, attempts, hook, no_trees, tree}
use Rattle.ccr_pipeline.specs.Untimed.{untimed, untimed_each, untimed_job}

-- a timeout, where timeouts stay
abbrev pub timeout_if : Bool → Option Text → Option Text
timeout_if true o = o
timeout_if false o = None

abbrev mutual
  -- a step whose timeouts stay, or are left out
  pub timed_tree : Bool → Tree → Tree
  timed_tree timed (get g) = get (record g { timeout = timeout_if timed g.timeout })
  timed_tree timed (put p) = put (record p { timeout = timeout_if timed p.timeout })
  timed_tree timed (task t) = task (record t { timeout = timeout_if timed t.timeout })
  timed_tree timed (in_order ts) = in_order (timed_each timed ts)
  timed_tree timed (in_parallel ts fast) = in_parallel (timed_each timed ts) fast
  timed_tree timed (tried t) = tried (timed_tree timed t)
  timed_tree timed (attempts n t) = attempts n (timed_tree timed t)
  timed_tree timed (hook w t h) = hook w (timed_tree timed t) (timed_tree timed h)

  -- the steps of a list
  pub timed_each : Bool → Trees → Trees
  timed_each timed no_trees = no_trees
  timed_each timed (tree t ts) = tree (timed_tree timed t) (timed_each timed ts)

-- a job
abbrev pub timed_job : Bool → JobData → JobData
timed_job timed j = record j { plan = timed_tree timed j.plan }

mutual
  all_stay : (t : Tree) → timed_tree true t ≡ t
  all_stay (get g) = refl
  all_stay (put p) = refl
  all_stay (task t) = refl
  all_stay (in_order ts) = ap in_order (each_stays ts)
  all_stay (in_parallel ts fast) = ap (λ us. in_parallel us fast) (each_stays ts)
  all_stay (tried t) = ap tried (all_stay t)
  all_stay (attempts n t) = ap (attempts n) (all_stay t)
  all_stay (hook w t h) = ap₂ (λ x y. hook w x y) (all_stay t) (all_stay h)

  each_stays : (ts : Trees) → timed_each true ts ≡ ts
  each_stays no_trees = refl
  each_stays (tree t ts) = ap₂ (λ x xs. tree x xs) (all_stay t) (each_stays ts)

mutual
  none_stays : (t : Tree) → timed_tree false t ≡ untimed t
  none_stays (get g) = refl
  none_stays (put p) = refl
  none_stays (task t) = refl
  none_stays (in_order ts) = ap in_order (none_of_each ts)
  none_stays (in_parallel ts fast) = ap (λ us. in_parallel us fast) (none_of_each ts)
  none_stays (tried t) = ap tried (none_stays t)
  none_stays (attempts n t) = ap (attempts n) (none_stays t)
  none_stays (hook w t h) = ap₂ (λ x y. hook w x y) (none_stays t) (none_stays h)

  none_of_each : (ts : Trees) → timed_each false ts ≡ untimed_each ts
  none_of_each no_trees = refl
  none_of_each (tree t ts) = ap₂ (λ x xs. tree x xs) (none_stays t) (none_of_each ts)

pub jobs_stay : (js : List JobData) → map (timed_job true) js ≡ js
jobs_stay [] = refl
jobs_stay (j ∷ js) = ap₂ (λ x xs. x ∷ xs) (ap (λ t. record j { plan = t }) (all_stay j.plan)) (jobs_stay js)

pub jobs_untimed : (js : List JobData) → map (timed_job false) js ≡ map untimed_job js
jobs_untimed [] = refl
jobs_untimed (j ∷ js) = ap₂ (λ x xs. x ∷ xs) (ap (λ t. record j { plan = t }) (none_stays j.plan)) (jobs_untimed js)

-- the inputs of a plan have no timeout
mutual
  pub inputs_timed : (timed : Bool) (t : Tree) → inputs (timed_tree timed t) ≡ inputs t
  inputs_timed timed (get g) = refl
  inputs_timed timed (put p) = refl
  inputs_timed timed (task t) = refl
  inputs_timed timed (in_order ts) = inputs_each timed ts
  inputs_timed timed (in_parallel ts fast) = inputs_each timed ts
  inputs_timed timed (tried t) = inputs_timed timed t
  inputs_timed timed (attempts n t) = inputs_timed timed t
  inputs_timed timed (hook OnError (hook OnAbort t aborted) errored) =
      ap₂ (λ xs ys. xs ++ ys) (inputs_timed timed t)
      (ap₂ (λ xs ys. xs ++ ys) (inputs_timed timed errored) (inputs_timed timed aborted))
  inputs_timed timed (hook w t h) = ap₂ (λ xs ys. xs ++ ys) (inputs_timed timed t) (inputs_timed timed h)

  inputs_each : (timed : Bool) (ts : Trees) → inputs_in (timed_each timed ts) ≡ inputs_in ts
  inputs_each timed no_trees = refl
  inputs_each timed (tree t ts) = ap₂ (λ xs ys. xs ++ ys) (inputs_timed timed t) (inputs_each timed ts)
