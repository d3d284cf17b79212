-- What the tree of a step keeps, the steps in its text keep, where the step is of one kind.
use Rattle.std.proofs.Common.{◌≡◌, ◌<◌, List, Bool, true, false, Option, Some, None, arith, is_some, codes, if◌then◌else◌}
use Rattle.std.specs.List.{AllByRecursion}
use Rattle.std.specs.Option.{IfSome}
use Rattle.serde_json.specs.Data.{Data, null, boolean, number, string, array, object, Items, no_items, item}
use Rattle.ccr_pipeline.specs.declared.step.When.{When}
use Rattle.ccr_pipeline.specs.declared.step.When.TheVariants.{OnSuccess, OnFailure, OnError, OnAbort, Ensure}
use Rattle.ccr_pipeline.specs.Tree.{hook_key, Tree, GetData, PutData, TaskData, get, put, task, in_order, in_parallel, tried, hook, trees_of}
use Rattle.ccr_pipeline.specs.Keys.{at_key, or_else, items_in, list_at}
use Rattle.ccr_pipeline.specs.Meaning.{get_from, put_from, task_from}
use Rattle.ccr_pipeline.specs.Steps.{with_hook, with_hooks, each_tree, parallel_items, holder, action}
use Rattle.ccr_pipeline.proofs.Inside.{EachItem, OwnSteps, Hooks}
use Rattle.ccr_pipeline.proofs.Kept.{holder_of}
use Rattle.ccr_pipeline.proofs.Ordered.{held, having}

-- where a step keeps Q, the steps that it holds keep R
pub record Gives (Q R : Tree → Type 0) : Type 0 where
  pub order : (ts : List Tree) → Q (in_order (trees_of ts)) → AllByRecursion R ts
  pub parallel : (ts : List Tree) (fast : Bool) → Q (in_parallel (trees_of ts) fast) → AllByRecursion R ts
  pub trying : (t : Tree) → Q (tried t) → R t

module _ (P : Data → Type 0) (Q R : Tree → Type 0) (rec : Data → Tree) (up : (d : Data) → R (rec d) → P d) where
  each : (ds : Items) → AllByRecursion R (each_tree rec ds) → EachItem P ds
  each no_items h = tt
  each (item d ds) h = (up d h.0, each ds h.1)

  module _ (gives : Gives Q R) where
    -- what holds of each step in a do, an in_parallel and a try
    record Held (x y z : Option Data) : Type 0 where
      order : EachItem P (or_else x no_items items_in)
      parallel : EachItem P (or_else y no_items items_in)
      steps : IfSome y (λ found. EachItem P (list_at (codes "steps") found))
      trying : IfSome z P

    none_held : (x y z : Option Data) → held x y z ≡ 0 → Held x y z
    none_held None None None e = record { order = tt; parallel = tt; steps = tt; trying = tt }
    none_held None None (Some d) e = absurd (omega (arith, e))
    none_held None (Some d) z e = absurd (omega (arith, e))
    none_held (Some d) y z e = absurd (omega (arith, e))

    -- an in_parallel is a list, or an object with a list of steps
    in_case : (d : Data) → AllByRecursion R (each_tree rec (parallel_items d)) → EachItem P (items_in d) × EachItem P (list_at (codes "steps") d)
    in_case null h = (tt, tt)
    in_case (boolean b) h = (tt, tt)
    in_case (number m) h = (tt, tt)
    in_case (string s) h = (tt, tt)
    in_case (array ds) h = (each ds h, tt)
    in_case (object ms) h = (tt, each (list_at (codes "steps") (object ms)) h)

    one_held : (x y z : Option Data) → held x y z < 2 → Q (holder_of rec x y z) → Held x y z
    one_held None None None few q = record { order = tt; parallel = tt; steps = tt; trying = tt }
    one_held None None (Some d) few q = record { order = tt; parallel = tt; steps = tt; trying = up d (gives.trying _ q) }
    one_held None (Some d) None few q =
        let both = in_case d (gives.parallel _ _ q) in
        record { order = tt; parallel = both.0; steps = both.1; trying = tt }
    one_held None (Some d) (Some a) few q = absurd (omega (arith, few))
    one_held (Some d) None None few q = record { order = each (items_in d) (gives.order _ q); parallel = tt; steps = tt; trying = tt }
    one_held (Some d) None (Some a) few q = absurd (omega (arith, few))
    one_held (Some d) (Some a) z few q = absurd (omega (arith, few))

    by_kind : (a b c : Bool) (x y z : Option Data) (g : GetData) (p : PutData) (k : TaskData) → having a b c (held x y z) < 2 → Q (if a then get g else (if b then put p else (if c then task k else holder_of rec x y z))) → Held x y z
    by_kind true b c x y z g p k few q = none_held x y z (omega (arith, few))
    by_kind false true c x y z g p k few q = none_held x y z (omega (arith, few))
    by_kind false false true x y z g p k few q = none_held x y z (omega (arith, few))
    by_kind false false false x y z g p k few q = one_held x y z (omega (arith, few)) q

    pub own-given : (d : Data) → having (is_some (at_key (codes "get") d)) (is_some (at_key (codes "put") d)) (is_some (at_key (codes "task") d)) (held (at_key (codes "do") d) (at_key (codes "in_parallel") d) (at_key (codes "try") d)) < 2 → Q (action rec d) → OwnSteps P d
    unfolding action holder
    own-given d few q =
        let x : Option Data = at_key (codes "do") d in
        let y : Option Data = at_key (codes "in_parallel") d in
        let z : Option Data = at_key (codes "try") d in
        let h : Held x y z = by_kind _ _ _ x y z (get_from d) (put_from d) (task_from d) few q in
        record { order = h.order; parallel = h.parallel; steps = h.steps; trying = h.trying }

  module _ (hooked : (w : When) (t h : Tree) → Q (hook w t h) → Q t × R h) where
    at_hook : (w : When) (o : Option Data) (t : Tree) → Q (or_else o t (λ found. hook w t (rec found))) → Q t × IfSome o P
    at_hook w None t q = (q, tt)
    at_hook w (Some found) t q = let both = hooked w t (rec found) q in (both.0, up found both.1)

    in_hook : (w : When) (d : Data) (t : Tree) → Q (with_hook rec w d t) → Q t × IfSome (at_key (hook_key w) d) P
    unfolding with_hook
    in_hook w d t q = at_hook w (at_key (hook_key w) d) t q

    pub hooks-given : (d : Data) (t : Tree) → Q (with_hooks rec d t) → Q t × Hooks P d
    unfolding with_hooks
    hooks-given d t q =
        let five = in_hook Ensure d _ q in
        let four = in_hook OnError d _ five.0 in
        let three = in_hook OnAbort d _ four.0 in
        let two = in_hook OnFailure d _ three.0 in
        let one = in_hook OnSuccess d t two.0 in
        (one.0, record { on_success = one.1; on_failure = two.1; on_error = four.1; on_abort = three.1; ensure = five.1 })

    pub plan-given : Gives Q R → (d : Data) → Q (with_hooks rec d (in_order (trees_of (each_tree rec (list_at (codes "plan") d))))) → EachItem P (list_at (codes "plan") d) × Hooks P d
    plan-given gives d q =
        let both = hooks-given d _ q in
        (each (list_at (codes "plan") d) (gives.order _ both.0), both.1)
