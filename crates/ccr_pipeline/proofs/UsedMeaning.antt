-- What a step without its unused keys is read as.
use Rattle.std.proofs.Common.{◌≡◌, ℕ, zero, suc, Bool, true, false, not, ◌&&◌, Option, Some, None, refl, ap, ap₂, ◌∙◌, option_and_then, option_map, unwrap_or, is_some, codes, if◌then◌else◌}
use Rattle.serde_json.specs.Data.{Data, null, array, object, Items, no_items, item}
use Rattle.serde_json.specs.Find.{as_str, as_bool}
use Rattle.ccr_pipeline.specs.declared.walk.TheConstants.{LEVELS}
use Rattle.ccr_pipeline.specs.declared.schema.Kind.TheVariants as kind
use Rattle.ccr_pipeline.specs.declared.schema.Schema.{Schema}
use Rattle.ccr_pipeline.specs.declared.schema.Schema.TheVariants as schema
use Rattle.ccr_pipeline.specs.declared.step.When.{When}
use Rattle.ccr_pipeline.specs.declared.step.When.TheVariants.{OnSuccess, OnFailure, OnError, OnAbort, Ensure}
use Rattle.ccr_pipeline.specs.Tree.{hook_key, Tree, get, put, task, in_order, in_parallel, tried, attempts, hook, no_trees, tree, trees_of, SourceData, config}
use Rattle.ccr_pipeline.specs.Keys.{at_key, or_else, items_in, list_at}
use Rattle.ccr_pipeline.specs.Meaning.{truth_from, run_of, inputs_in, outputs_in, config_from, source_from, task_from, get_from, put_from}
use Rattle.ccr_pipeline.specs.Names.{text_at}
use Rattle.ccr_pipeline.specs.Plans.{plan_from}
use Rattle.ccr_pipeline.specs.Steps.{with_hook, with_hooks, each_tree, parallel_items, holder, action, step_tree}
use Rattle.ccr_pipeline.specs.Used.{kind_at, used, used_items}
use Rattle.ccr_pipeline.proofs.Joined.{none_of}
use Rattle.ccr_pipeline.proofs.Timed.{timeout_if, timed_tree, timed_each}
use Rattle.ccr_pipeline.proofs.UsedKeys.{at_unused, at_used, at_same, step_object, items_used, steps_used, list_used}
use Rattle.ccr_pipeline.proofs.UsedSteps.{no_config, no_file, get_same, put_same, task_same, attempts_same, do_used, in_parallel_used, try_used, parallel_steps, Hooked, step_hooked, job_hooked}

of_kind : (f : Tree → Tree) (a b : Bool) (s t x y : Tree) → a ≡ b → (b ≡ true → s ≡ f t) → (b ≡ false → x ≡ f y) → (if a then s else x) ≡ f (if b then t else y)
of_kind f a true s t x y e here absent = rw e (here refl)
of_kind f a false s t x y e here absent = rw e (absent refl)

-- at the timeout stands what stood there, where timeouts stay, and else nothing
timeout_used : (timed : Bool) (s : Schema) (d : Data) → (kind_at true s (codes "timeout") ≡ Some kind.Any) × (kind_at false s (codes "timeout") ≡ None) → text_at (codes "timeout") (used timed (kind.Object s) d) ≡ timeout_if timed (text_at (codes "timeout") d)
timeout_used true s d h = ap (option_and_then as_str) (at_same true s (codes "timeout") d (rw h.0 refl))
timeout_used false s d h = rw (at_unused false s (codes "timeout") h.1 d) refl

module _ (timed : Bool) where
  run_of_same : (d : Data) → run_of (used timed (kind.Object schema.Run) d) ≡ run_of d
  unfolding kind_at
  run_of_same d =
      rw (at_same timed schema.Run (codes "path") d refl, at_same timed schema.Run (codes "args") d refl, at_same timed schema.Run (codes "dir") d refl) refl

  run_found : (o : Option Data) → run_of (unwrap_or (option_map (used timed (kind.Object schema.Run)) o) null) ≡ run_of (unwrap_or o null)
  run_found None = refl
  run_found (Some d) = run_of_same d

  inputs_in_same : (ds : Items) → inputs_in (used_items timed (kind.Object schema.Input) ds) ≡ inputs_in ds
  unfolding kind_at
  inputs_in_same no_items = refl
  inputs_in_same (item d ds) =
      rw (at_same timed schema.Input (codes "name") d refl, at_same timed schema.Input (codes "optional") d refl, inputs_in_same ds) refl

  outputs_in_same : (ds : Items) → outputs_in (used_items timed (kind.Object schema.Output) ds) ≡ outputs_in ds
  unfolding kind_at
  outputs_in_same no_items = refl
  outputs_in_same (item d ds) = rw (at_same timed schema.Output (codes "name") d refl, outputs_in_same ds) refl

  config_same : (d : Data) → config_from (used timed (kind.Object schema.Config) d) ≡ config_from d
  unfolding kind_at
  config_same d =
      rw (
        at_used timed schema.Config (codes "run") (kind.Object schema.Run) refl d,
        run_found (at_key (codes "run") d),
        at_used timed schema.Config (codes "inputs") (kind.Objects schema.Input) refl d,
        list_used timed (kind.Objects schema.Input) _ (items_used timed schema.Input) (at_key (codes "inputs") d),
        inputs_in_same (list_at (codes "inputs") d),
        at_used timed schema.Config (codes "outputs") (kind.Objects schema.Output) refl d,
        list_used timed (kind.Objects schema.Output) _ (items_used timed schema.Output) (at_key (codes "outputs") d),
        outputs_in_same (list_at (codes "outputs") d),
        at_same timed schema.Config (codes "params") d refl,
      )
      refl

  -- a config, or else a file that is the same where there is no config
  source_of : (x y : SourceData) (o : Option Data) → (is_some o ≡ false → x ≡ y) → or_else (option_map (used timed (kind.Object schema.Config)) o) x (λ found. config (config_from found)) ≡ or_else o y (λ found. config (config_from found))
  source_of x y None h = h refl
  source_of x y (Some d) h = ap config (config_same d)

  task_by : (d : Data) (c f : Bool) → is_some (at_key (codes "config") d) ≡ c → is_some (at_key (codes "file") d) ≡ f → task_from (used timed (kind.Object (if not c && f then schema.FileTask else schema.Task)) d) ≡ record (task_from d) { timeout = timeout_if timed (text_at (codes "timeout") d) }
  unfolding kind_at
  task_by d true f a b =
      let source : source_from (used timed (kind.Object schema.Task) d) ≡ source_from d =
      rw (at_used timed schema.Task (codes "config") (kind.Object schema.Config) refl d)
      (source_of _ _ (at_key (codes "config") d) (λ e. let both : true ≡ false = cc (a, e) in absurd (cc (both)))) in
      rw (at_same timed schema.Task (codes "task") d refl, source, at_same timed schema.Task (codes "params") d refl, timeout_used timed schema.Task d (refl, refl)) refl
  task_by d false true a b =
      rw (at_same timed schema.FileTask (codes "task") d refl, no_config timed d, none_of (at_key (codes "config") d) a, at_same timed schema.FileTask (codes "file") d refl, at_same timed schema.FileTask (codes "params") d refl, timeout_used timed schema.FileTask d (refl, refl))
      refl
  task_by d false false a b =
      let source : source_from (used timed (kind.Object schema.Task) d) ≡ source_from d =
      rw (at_used timed schema.Task (codes "config") (kind.Object schema.Config) refl d, no_file timed d, none_of (at_key (codes "file") d) b)
      (source_of _ _ (at_key (codes "config") d) (λ e. refl)) in
      rw (at_same timed schema.Task (codes "task") d refl, source, at_same timed schema.Task (codes "params") d refl, timeout_used timed schema.Task d (refl, refl)) refl

  get_from_same : (d : Data) → is_some (at_key (codes "get") d) ≡ true → get_from (used timed kind.Step d) ≡ record (get_from d) { timeout = timeout_if timed (text_at (codes "timeout") d) }
  unfolding kind_at
  get_from_same d g =
      rw (step_object timed d, g, at_same timed schema.Get (codes "get") d refl, at_same timed schema.Get (codes "resource") d refl, at_same timed schema.Get (codes "passed") d refl, at_same timed schema.Get (codes "trigger") d refl, at_same timed schema.Get (codes "params") d refl, at_same timed schema.Get (codes "version") d refl, timeout_used timed schema.Get d (refl, refl))
      refl

  put_from_same : (d : Data) → is_some (at_key (codes "get") d) ≡ false → is_some (at_key (codes "put") d) ≡ true → put_from (used timed kind.Step d) ≡ record (put_from d) { timeout = timeout_if timed (text_at (codes "timeout") d) }
  unfolding kind_at
  put_from_same d g p =
      rw (step_object timed d, g, p, at_same timed schema.Put (codes "put") d refl, at_same timed schema.Put (codes "resource") d refl, at_same timed schema.Put (codes "params") d refl, at_same timed schema.Put (codes "get_params") d refl, at_same timed schema.Put (codes "no_get") d refl, timeout_used timed schema.Put d (refl, refl))
      refl

  task_from_same : (d : Data) → is_some (at_key (codes "get") d) ≡ false → is_some (at_key (codes "put") d) ≡ false → is_some (at_key (codes "task") d) ≡ true → task_from (used timed kind.Step d) ≡ record (task_from d) { timeout = timeout_if timed (text_at (codes "timeout") d) }
  task_from_same d g p t =
      rw (step_object timed d, g, p, t) (task_by d (is_some (at_key (codes "config") d)) (is_some (at_key (codes "file") d)) refl refl)

  module _ (rec : Data → Tree) (same : (d : Data) → rec (used timed kind.Step d) ≡ timed_tree timed (rec d)) where
    trees_same : (ds : Items) → trees_of (each_tree rec (used_items timed kind.Step ds)) ≡ timed_each timed (trees_of (each_tree rec ds))
    trees_same no_items = refl
    trees_same (item d ds) = ap₂ (λ t ts. tree t ts) (same d) (trees_same ds)

    hook_found : (w : When) (s t : Tree) → s ≡ timed_tree timed t → (o : Option Data) → or_else (option_map (used timed kind.Step) o) s (λ found. hook w s (rec found)) ≡ timed_tree timed (or_else o t (λ found. hook w t (rec found)))
    hook_found w s t is None = is
    hook_found w s t is (Some d) = ap₂ (λ x y. hook w x y) is (same d)

    hook_same : (w : When) (e d : Data) (s t : Tree) → Hooked timed e d → s ≡ timed_tree timed t → with_hook rec w e s ≡ timed_tree timed (with_hook rec w d t)
    unfolding with_hook
    hook_same w e d s t h is = rw (h w) (hook_found w s t is (at_key (hook_key w) d))

    hooks_same : (e d : Data) (s t : Tree) → Hooked timed e d → s ≡ timed_tree timed t → with_hooks rec e s ≡ timed_tree timed (with_hooks rec d t)
    unfolding with_hooks
    hooks_same e d s t h is =
        hook_same Ensure e d _ _ h (hook_same OnError e d _ _ h (hook_same OnAbort e d _ _ h (hook_same OnFailure e d _ _ h (hook_same OnSuccess e d s t h is))))

    try_found : (o : Option Data) → or_else (option_map (used timed kind.Step) o) (in_order no_trees) (λ found. tried (rec found)) ≡ timed_tree timed (or_else o (in_order no_trees) (λ found. tried (rec found)))
    try_found None = refl
    try_found (Some d) = ap tried (same d)

    at_parallel : (d : Data) → in_parallel (trees_of (each_tree rec (parallel_items (used timed kind.Parallel d)))) (truth_from (codes "fail_fast") (used timed kind.Parallel d)) ≡ in_parallel (timed_each timed (trees_of (each_tree rec (parallel_items d)))) (truth_from (codes "fail_fast") d)
    unfolding kind_at
    at_parallel (array ds) = ap (λ ts. in_parallel ts false) (trees_same ds)
    at_parallel (object ms) =
        ap₂ (λ ts fast. in_parallel ts fast)
        (ap (λ ds. trees_of (each_tree rec ds)) (parallel_steps timed (object ms)) ∙ trees_same (list_at (codes "steps") (object ms)))
        (ap (λ o. or_else o false (λ found. unwrap_or (as_bool found) false)) (at_same timed schema.Parallel (codes "fail_fast") (object ms) refl))
    at_parallel _ = refl

    parallel_found : (o : Option Data) (x y : Tree) → x ≡ timed_tree timed y → or_else (option_map (used timed kind.Parallel) o) x (λ found. in_parallel (trees_of (each_tree rec (parallel_items found))) (truth_from (codes "fail_fast") found)) ≡ timed_tree timed (or_else o y (λ found. in_parallel (trees_of (each_tree rec (parallel_items found))) (truth_from (codes "fail_fast") found)))
    parallel_found None x y other = other
    parallel_found (Some d) x y other = at_parallel d

    do_found : (o : Option Data) (x y : Tree) → x ≡ timed_tree timed y → or_else (option_map (used timed kind.Steps) o) x (λ found. in_order (trees_of (each_tree rec (items_in found)))) ≡ timed_tree timed (or_else o y (λ found. in_order (trees_of (each_tree rec (items_in found)))))
    do_found None x y other = other
    do_found (Some d) x y other = ap in_order (ap (λ ds. trees_of (each_tree rec ds)) (steps_used timed d) ∙ trees_same (items_in d))

    holder_same : (d : Data) → holder rec (used timed kind.Step d) ≡ timed_tree timed (holder rec d)
    unfolding holder
    holder_same d =
        rw (do_used timed d, in_parallel_used timed d, try_used timed d)
        (do_found (at_key (codes "do") d) _ _ (parallel_found (at_key (codes "in_parallel") d) _ _ (try_found (at_key (codes "try") d))))

    action_same : (d : Data) → action rec (used timed kind.Step d) ≡ timed_tree timed (action rec d)
    unfolding action
    action_same d =
        of_kind (timed_tree timed) _ (is_some (at_key (codes "get") d)) _ _ _ _ (ap is_some (get_same timed d)) (λ g. ap get (get_from_same d g)) (λ g.
        of_kind (timed_tree timed) _ (is_some (at_key (codes "put") d)) _ _ _ _ (ap is_some (put_same timed d)) (λ p. ap put (put_from_same d g p)) (λ p.
        of_kind (timed_tree timed) _ (is_some (at_key (codes "task") d)) _ _ _ _ (ap is_some (task_same timed d)) (λ t. ap task (task_from_same d g p t)) (λ t. holder_same d)))

  attempts_found : (o : Option ℕ) (s t : Tree) → s ≡ timed_tree timed t → or_else o s (λ n. attempts n s) ≡ timed_tree timed (or_else o t (λ n. attempts n t))
  attempts_found None s t is = is
  attempts_found (Some n) s t is = ap (attempts n) is

  step_tree_same : (m : ℕ) (d : Data) → step_tree m (used timed kind.Step d) ≡ timed_tree timed (step_tree m d)
  unfolding step_tree
  step_tree_same zero d = refl
  step_tree_same (suc m) d =
      hooks_same (step_tree m) (step_tree_same m) (used timed kind.Step d) d _ _ (step_hooked timed d)
      (rw (attempts_same timed d) (attempts_found _ _ _ (action_same (step_tree m) (step_tree_same m) d)))

  pub plan_used : (d : Data) → list_at (codes "plan") (used timed (kind.Object schema.Job) d) ≡ used_items timed kind.Step (list_at (codes "plan") d)
  unfolding kind_at
  plan_used d =
      ap (λ o. or_else o no_items items_in) (at_used timed schema.Job (codes "plan") kind.Steps refl d)
      ∙ list_used timed kind.Steps kind.Step (steps_used timed) (at_key (codes "plan") d)

  pub plan_same : (d : Data) → plan_from (used timed (kind.Object schema.Job) d) ≡ timed_tree timed (plan_from d)
  unfolding plan_from
  plan_same d =
      hooks_same (step_tree LEVELS) (step_tree_same LEVELS) (used timed (kind.Object schema.Job) d) d _ _ (job_hooked timed d)
      (ap in_order
      (ap (λ ds. trees_of (each_tree (step_tree LEVELS) ds)) (plan_used d) ∙ trees_same (step_tree LEVELS) (step_tree_same LEVELS) (list_at (codes "plan") d)))
