-- What the steps in a text keep, the tree keeps that they are read as.
use Rattle.std.proofs.Common.{◌≡◌, ℕ, List, [], Bool, true, false, Option, Some, None, refl, codes, is_some, if◌then◌else◌}
use Rattle.std.specs.List.{AllByRecursion}
use Rattle.std.specs.Option.{IfSome}
use Rattle.serde_json.specs.Data.{Data, Items, no_items, item}
use Rattle.serde_json.specs.Find.{as_array}
use Rattle.ccr_pipeline.specs.declared.step.When.{When}
use Rattle.ccr_pipeline.specs.declared.step.When.TheVariants.{OnSuccess, OnFailure, OnError, OnAbort, Ensure}
use Rattle.ccr_pipeline.specs.Tree.{hook_key, Tree, get, put, task, in_order, in_parallel, tried, attempts, hook, no_trees, trees_of}
use Rattle.ccr_pipeline.specs.Keys.{at_key, or_else, items_in, list_at}
use Rattle.ccr_pipeline.specs.Meaning.{truth_from, get_from, put_from, task_from}
use Rattle.ccr_pipeline.specs.Steps.{with_hook, with_hooks, each_tree, parallel_items, holder, action}
use Rattle.ccr_pipeline.proofs.Inside.{EachItem, OwnSteps, Hooks}

-- a step keeps Q, if the steps that it holds keep R
pub record Holds (Q R : Tree → Type 0) : Type 0 where
  pub order : (ts : List Tree) → AllByRecursion R ts → Q (in_order (trees_of ts))
  pub parallel : (ts : List Tree) (fast : Bool) → AllByRecursion R ts → Q (in_parallel (trees_of ts) fast)
  pub trying : (t : Tree) → R t → Q (tried t)

-- a step that holds no steps keeps Q
pub record Leaves (Q : Tree → Type 0) (d : Data) : Type 0 where
  pub getting : is_some (at_key (codes "get") d) ≡ true → Q (get (get_from d))
  pub putting : is_some (at_key (codes "get") d) ≡ false → is_some (at_key (codes "put") d) ≡ true → Q (put (put_from d))
  pub doing : is_some (at_key (codes "get") d) ≡ false → is_some (at_key (codes "put") d) ≡ false → is_some (at_key (codes "task") d) ≡ true → Q (task (task_from d))

pub of_kind : (Q : Tree → Type 0) (b : Bool) (t other : Tree) → (b ≡ true → Q t) → (b ≡ false → Q other) → Q (if b then t else other)
of_kind Q true t other here absent = here refl
of_kind Q false t other here absent = absent refl

-- the step that what stands at do, in_parallel and try makes
abbrev pub holder_of : (Data → Tree) → Option Data → Option Data → Option Data → Tree
holder_of rec x y z =
    or_else x (or_else y (or_else z (in_order no_trees) (λ found. tried (rec found)))
    (λ found. in_parallel (trees_of (each_tree rec (parallel_items found))) (truth_from (codes "fail_fast") found)))
    (λ found. in_order (trees_of (each_tree rec (items_in found))))

-- a step in its attempts keeps Q, if attempts do
pub attempts-kept : (Q : Tree → Type 0) → ((n : ℕ) (t : Tree) → Q t → Q (attempts n t)) → (o : Option ℕ) (t : Tree) → Q t → Q (or_else o t (λ n. attempts n t))
attempts-kept Q keep None t h = h
attempts-kept Q keep (Some n) t h = keep n t h

module _ (P : Data → Type 0) (Q R : Tree → Type 0) (rec : Data → Tree) (down : (d : Data) → P d → R (rec d)) where
  each : (ds : Items) → EachItem P ds → AllByRecursion R (each_tree rec ds)
  each no_items h = tt
  each (item d ds) h = (down d h.0, each ds h.1)

  in_case : (b : Bool) (xs ys : Items) → EachItem P xs → EachItem P ys → AllByRecursion R (each_tree rec (if b then xs else ys))
  in_case true xs ys h g = each xs h
  in_case false xs ys h g = each ys g

  module _ (holds : Holds Q R) where
    at_try : (o : Option Data) → IfSome o P → Q (or_else o (in_order no_trees) (λ found. tried (rec found)))
    at_try None h = holds.order [] tt
    at_try (Some found) h = holds.trying (rec found) (down found h)

    at_parallel : (o : Option Data) (other : Tree) → EachItem P (or_else o no_items items_in) → IfSome o (λ found. EachItem P (list_at (codes "steps") found)) → Q other → Q (or_else o other (λ found. in_parallel (trees_of (each_tree rec (parallel_items found))) (truth_from (codes "fail_fast") found)))
    at_parallel None other h g q = q
    at_parallel (Some found) other h g q = holds.parallel _ _ (in_case (is_some (as_array found)) (items_in found) (list_at (codes "steps") found) h g)

    at_do : (o : Option Data) (other : Tree) → EachItem P (or_else o no_items items_in) → Q other → Q (or_else o other (λ found. in_order (trees_of (each_tree rec (items_in found)))))
    at_do None other h q = q
    at_do (Some found) other h q = holds.order _ (each (items_in found) h)

    holder-kept : (d : Data) → OwnSteps P d → Q (holder rec d)
    unfolding holder
    holder-kept d own =
        at_do (at_key (codes "do") d) _ own.order
        (at_parallel (at_key (codes "in_parallel") d) _ own.parallel own.steps (at_try (at_key (codes "try") d) own.trying))

    pub action-kept : (d : Data) → Leaves Q d → OwnSteps P d → Q (action rec d)
    unfolding action
    action-kept d leaves own =
        of_kind Q (is_some (at_key (codes "get") d)) _ _ leaves.getting (λ a.
        of_kind Q (is_some (at_key (codes "put") d)) _ _ (leaves.putting a) (λ b.
        of_kind Q (is_some (at_key (codes "task") d)) _ _ (leaves.doing a b) (λ c. holder-kept d own)))

  module _ (hooked : (w : When) (t h : Tree) → Q t → R h → Q (hook w t h)) where
    at_hook : (w : When) (o : Option Data) (t : Tree) → IfSome o P → Q t → Q (or_else o t (λ found. hook w t (rec found)))
    at_hook w None t h q = q
    at_hook w (Some found) t h q = hooked w t (rec found) q (down found h)

    in_hook : (w : When) (d : Data) (t : Tree) → IfSome (at_key (hook_key w) d) P → Q t → Q (with_hook rec w d t)
    unfolding with_hook
    in_hook w d t h q = at_hook w (at_key (hook_key w) d) t h q

    pub hooks-kept : (d : Data) (t : Tree) → Hooks P d → Q t → Q (with_hooks rec d t)
    unfolding with_hooks
    hooks-kept d t hooks q =
        in_hook Ensure d _ hooks.ensure (in_hook OnError d _ hooks.on_error (in_hook OnAbort d _ hooks.on_abort
        (in_hook OnFailure d _ hooks.on_failure (in_hook OnSuccess d t hooks.on_success q))))

pub plan-kept : (P : Data → Type 0) (Q R : Tree → Type 0) (rec : Data → Tree) (down : (d : Data) → P d → R (rec d)) (holds : Holds Q R) (hooked : (w : When) (t h : Tree) → Q t → R h → Q (hook w t h)) (d : Data) → EachItem P (list_at (codes "plan") d) → Hooks P d → Q (with_hooks rec d (in_order (trees_of (each_tree rec (list_at (codes "plan") d)))))
plan-kept P Q R rec down holds hooked d steps hooks =
    hooks-kept P Q R rec down hooked d _ hooks (holds.order _ (each P Q R rec down (list_at (codes "plan") d) steps))
