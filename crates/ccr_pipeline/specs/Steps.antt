-- The tree that a step is read as, where no fault is present in it.
use Rattle.std.specs.Prelude.{ℕ, zero, suc, List, [], ◌∷◌, option_and_then, is_some, codes, if◌then◌else◌}
use Rattle.serde_json.specs.Data.{Data, Items, no_items, item}
use Rattle.serde_json.specs.Find.{as_number, as_u64, as_array}
use Rattle.ccr_pipeline.specs.declared.step.When.{When}
use Rattle.ccr_pipeline.specs.declared.step.When.TheVariants.{OnSuccess, OnFailure, OnError, OnAbort, Ensure}
use Rattle.ccr_pipeline.specs.Tree.{hook_key, Tree, get, put, task, in_order, in_parallel, tried, attempts, hook, no_trees, trees_of}
use Rattle.ccr_pipeline.specs.Keys.{at_key, or_else, items_in, list_at}
use Rattle.ccr_pipeline.specs.Meaning.{truth_from, get_from, put_from, task_from}

-- the step in its attempts
abbrev pub with_attempts : Data → Tree → Tree
with_attempts d t =
    or_else (option_and_then as_u64 (option_and_then as_number (at_key (codes "attempts") d))) t (λ n. attempts n t)

-- the step in a hook, if it has it
unfoldable pub with_hook : (Data → Tree) → When → Data → Tree → Tree
with_hook rec w d t = or_else (at_key (hook_key w) d) t (λ found. hook w t (rec found))

-- the step in its hooks, outermost ensure, then on_error, on_abort, on_failure, on_success
unfoldable pub with_hooks : (Data → Tree) → Data → Tree → Tree
with_hooks rec d t =
    with_hook rec Ensure d (with_hook rec OnError d (with_hook rec OnAbort d
    (with_hook rec OnFailure d (with_hook rec OnSuccess d t))))

-- the steps of a list, each by rec from its text
abbrev pub each_tree : (Data → Tree) → Items → List Tree
each_tree rec no_items = []
each_tree rec (item d ds) = rec d ∷ each_tree rec ds

-- the texts of the steps of an in_parallel: a list, or an object with a list of steps
abbrev pub parallel_items : Data → Items
parallel_items d = if is_some (as_array d) then items_in d else list_at (codes "steps") d

-- a step that holds steps
unfoldable pub holder : (Data → Tree) → Data → Tree
holder rec d =
    or_else (at_key (codes "do") d)
    (or_else (at_key (codes "in_parallel") d)
    (or_else (at_key (codes "try") d) (in_order no_trees) (λ found. tried (rec found)))
    (λ found. in_parallel (trees_of (each_tree rec (parallel_items found))) (truth_from (codes "fail_fast") found)))
    (λ found. in_order (trees_of (each_tree rec (items_in found))))

-- the step without its modifiers
unfoldable pub action : (Data → Tree) → Data → Tree
action rec d =
    if is_some (at_key (codes "get") d) then get (get_from d) else
    (if is_some (at_key (codes "put") d) then put (put_from d) else
    (if is_some (at_key (codes "task") d) then task (task_from d) else holder rec d))

-- a step of so many levels; of none, nothing is read
unfoldable pub step_tree : ℕ → Data → Tree
step_tree zero d = in_order no_trees
step_tree (suc n) d = with_hooks (step_tree n) d (with_attempts d (action (step_tree n) d))
