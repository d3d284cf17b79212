-- Steps and jobs, printed as JSON values, are read as the same.
use Rattle.std.proofs.Common.{◌≡◌, ℕ, zero, suc, List, [], ◌∷◌, ◌++◌, Option, Some, None, refl, ap, ap₂, ◌∙◌, option_map, option_and_then, codes}
use Rattle.std.specs.List.{AllByRecursion}
use Rattle.std.specs.Option.{IfSome}
use Rattle.serde_json.specs.Data.{unsigned, Data, number, array, Items, no_items, item}
use Rattle.serde_json.specs.Find.{as_number, as_u64}
use Rattle.ccr_pipeline.specs.declared.step.When.{When}
use Rattle.ccr_pipeline.specs.declared.step.When.TheVariants.{OnSuccess, OnFailure, OnError, OnAbort, Ensure}
use Rattle.ccr_pipeline.specs.declared.walk.TheConstants.{LEVELS}
use Rattle.ccr_pipeline.specs.Tree.{hook_key, Text, SourceData, config, file, Tree, Trees, get, put, task, in_order, in_parallel, tried, attempts, hook, no_trees, tree, trees_of}
use Rattle.ccr_pipeline.specs.JobData.{JobData}
use Rattle.ccr_pipeline.specs.Keys.{unless_null, at_key, or_else, list_at}
use Rattle.ccr_pipeline.specs.Meaning.{task_from}
use Rattle.ccr_pipeline.specs.Pipelines.{job_from}
use Rattle.ccr_pipeline.specs.Plans.{plan_from}
use Rattle.ccr_pipeline.specs.Printed.{Field, made, or_null, Around, alone, with_printed, hook_fields, task_value, printed, printed_each, plan_fields, job_fields, job_value}
use Rattle.ccr_pipeline.specs.Steps.{step_tree, with_attempts, with_hook, with_hooks, each_tree, holder, action}
use Rattle.ccr_pipeline.proofs.Inside.{EachItem, OwnSteps}
use Rattle.ccr_pipeline.proofs.Kept.{Holds, Leaves, action-kept}
use Rattle.ccr_pipeline.proofs.PrintedLeaves.{texts_again, get_again, put_again, task_again}

-- the attempts that a step has
abbrev pub count_of : Data → Option ℕ
count_of d = option_and_then as_u64 (option_and_then as_number (at_key (codes "attempts") d))

-- what is read of a hook, printed
abbrev pub hook_from : (Data → Tree) → List ℕ → Data → Option Data
hook_from rec k d = option_map (λ found. printed alone (rec found)) (at_key k d)

-- what stands around a step or a job
abbrev pub around_of : (Data → Tree) → Data → Around
around_of rec d = record {
  attempts = count_of d;
  on_success = hook_from rec (codes "on_success") d;
  on_failure = hook_from rec (codes "on_failure") d;
  on_error = hook_from rec (codes "on_error") d;
  on_abort = hook_from rec (codes "on_abort") d;
  ensure = hook_from rec (codes "ensure") d;
}

-- a step without attempts and hooks around it
abbrev pub IsAction : Tree → Type 0
IsAction (attempts n t) = ⊥
IsAction (hook w t h) = ⊥
IsAction t = Unit {0}

-- nothing is asked of the steps in a step
abbrev Any : Data → Type 0
Any d = Unit {0}

any_each : (ds : Items) → EachItem Any ds
any_each no_items = tt
any_each (item d ds) = (tt, any_each ds)

any_some : (P : Data → Type 0) (o : Option Data) → ((d : Data) → P d) → IfSome o P
any_some P None h = tt
any_some P (Some d) h = h d

any_own : (d : Data) → OwnSteps Any d
any_own d = record {
  order = any_each (list_at (codes "do") d);
  parallel = any_each (list_at (codes "in_parallel") d);
  steps = any_some (λ found. EachItem Any (list_at (codes "steps") found)) (at_key (codes "in_parallel") d) (λ found. any_each (list_at (codes "steps") found));
  trying = any_some Any (at_key (codes "try") d) (λ found. tt);
}

pub action_is : (rec : Data → Tree) (d : Data) → IsAction (action rec d)
action_is rec d =
    action-kept Any IsAction (λ t. Unit {0}) rec (λ d h. tt)
    (record { order = λ ts h. tt; parallel = λ ts fast h. tt; trying = λ t h. tt })
    d (record { getting = λ a. tt; putting = λ a b. tt; doing = λ a b c. tt }) (any_own d)

-- a step is printed with its attempts and its hooks around it

-- this at a hook, if anything
abbrev under : When → Option Data → Around → Around
under OnSuccess o a = record a { on_success = o }
under OnFailure o a = record a { on_failure = o }
under OnError o a = record a { on_error = o }
under OnAbort o a = record a { on_abort = o }
under Ensure o a = record a { ensure = o }

-- the hooks alone
abbrev hooks_of : (Data → Tree) → Data → Around
hooks_of rec d = record (around_of rec d) { attempts = None }

-- one hook after the other, from the outermost, P being how a tree is printed

module _ (A : Type 0) (P : Around → Tree → A) (step : (w : When) (a : Around) (t h : Tree) → P a (hook w t h) ≡ P (with_printed w (printed alone h) a) t) (rec : Data → Tree) where
  hook_off : (w : When) (a : Around) (t : Tree) (o : Option Data) → P (under w None a) (or_else o t (λ found. hook w t (rec found))) ≡ P (under w (option_map (λ found. printed alone (rec found)) o) a) t
  hook_off w a t None = refl
  hook_off OnSuccess a t (Some d) = step OnSuccess _ t (rec d)
  hook_off OnFailure a t (Some d) = step OnFailure _ t (rec d)
  hook_off OnError a t (Some d) = step OnError _ t (rec d)
  hook_off OnAbort a t (Some d) = step OnAbort _ t (rec d)
  hook_off Ensure a t (Some d) = step Ensure _ t (rec d)

  off : (w : When) (a : Around) (t : Tree) (d : Data) → P (under w None a) (with_hook rec w d t) ≡ P (under w (hook_from rec (hook_key w) d) a) t
  unfolding with_hook
  off w a t d = hook_off w a t (at_key (hook_key w) d)

  hooks_off : (d : Data) (t : Tree) → P alone (with_hooks rec d t) ≡ P (hooks_of rec d) t
  unfolding with_hooks
  hooks_off d t =
      let h = hooks_of rec d in
      off Ensure alone _ d ∙ (off OnError (record alone { ensure = h.ensure }) _ d
      ∙ (off OnAbort (record alone { ensure = h.ensure; on_error = h.on_error }) _ d
      ∙ (off OnFailure (record h { on_success = None; on_failure = None }) _ d ∙ off OnSuccess (record h { on_success = None }) t d)))

attempts_off : (a : Around) (t : Tree) (o : Option ℕ) → printed (record a { attempts = None }) (or_else o t (λ n. attempts n t)) ≡ printed (record a { attempts = o }) t
attempts_off a t None = refl
attempts_off a t (Some n) = refl

pub printed_step : (n : ℕ) (d : Data) → printed alone (step_tree (suc n) d) ≡ printed (around_of (step_tree n) d) (action (step_tree n) d)
unfolding step_tree
printed_step n d =
    hooks_off Data printed (λ w a t h. refl) (step_tree n) d (with_attempts d (action (step_tree n) d))
    ∙ attempts_off (around_of (step_tree n) d) (action (step_tree n) d) (count_of d)

pub printed_plan : (rec : Data → Tree) (d : Data) (ts : Trees) → plan_fields alone (with_hooks rec d (in_order ts)) ≡ (codes "plan", array (printed_each ts)) ∷ hook_fields (around_of rec d)
printed_plan rec d ts = hooks_off (List Field) plan_fields (λ w a t h. refl) rec d (in_order ts)

-- what stands at their keys: nothing that is printed of a step is null

pub not_null : (a : Around) (t : Tree) → unless_null (printed a t) ≡ Some (printed a t)
not_null a (attempts n t) = not_null (record a { attempts = Some n }) t
not_null a (hook w t h) = not_null (with_printed w (printed alone h) a) t
not_null a t = refl

hook_there : (rec : Data → Tree) (o : Option Data) → unless_null (or_null (option_map (λ found. printed alone (rec found)) o)) ≡ option_map (λ found. printed alone (rec found)) o
hook_there rec None = refl
hook_there rec (Some d) = not_null alone (rec d)

count_there : (o : Option ℕ) → unless_null (or_null (option_map (λ n. number (unsigned n)) o)) ≡ option_map (λ n. number (unsigned n)) o
count_there None = refl
count_there (Some n) = refl

-- these hooks stand at their keys
record HasHooks (a : Around) (d : Data) : Type 0 where
  pub on_success : at_key (codes "on_success") d ≡ unless_null (or_null a.on_success)
  pub on_failure : at_key (codes "on_failure") d ≡ unless_null (or_null a.on_failure)
  pub on_error : at_key (codes "on_error") d ≡ unless_null (or_null a.on_error)
  pub on_abort : at_key (codes "on_abort") d ≡ unless_null (or_null a.on_abort)
  pub ensure : at_key (codes "ensure") d ≡ unless_null (or_null a.ensure)

hooks_at : (rec : Data → Tree) (d e : Data) → HasHooks (around_of rec d) e → (w : When) → at_key (hook_key w) e ≡ hook_from rec (hook_key w) d
hooks_at rec d e h OnSuccess = h.on_success ∙ hook_there rec (at_key (codes "on_success") d)
hooks_at rec d e h OnFailure = h.on_failure ∙ hook_there rec (at_key (codes "on_failure") d)
hooks_at rec d e h OnError = h.on_error ∙ hook_there rec (at_key (codes "on_error") d)
hooks_at rec d e h OnAbort = h.on_abort ∙ hook_there rec (at_key (codes "on_abort") d)
hooks_at rec d e h Ensure = h.ensure ∙ hook_there rec (at_key (codes "ensure") d)

task_has : (a : Around) (n : Text) (s : SourceData) (ps : List (Text × Text)) (limit : Option Text) → HasHooks a (task_value a (record { name = n; source = s; params = ps; timeout = limit }))
task_has a n (config c) ps limit = record { on_success = refl; on_failure = refl; on_error = refl; on_abort = refl; ensure = refl }
task_has a n (file p) ps limit = record { on_success = refl; on_failure = refl; on_error = refl; on_abort = refl; ensure = refl }

step_has : (a : Around) (t : Tree) → IsAction t → HasHooks a (printed a t)
step_has a (attempts n t) is = absurd is
step_has a (hook w t h) is = absurd is
step_has a (task t) is = task_has a t.name t.source t.params t.timeout
step_has a t is = record { on_success = refl; on_failure = refl; on_error = refl; on_abort = refl; ensure = refl }

pub at_hook : (rec : Data → Tree) (d : Data) (t : Tree) → IsAction t → (w : When) → at_key (hook_key w) (printed (around_of rec d) t) ≡ hook_from rec (hook_key w) d
at_hook rec d t is w = hooks_at rec d (printed (around_of rec d) t) (step_has (around_of rec d) t is) w

task_count : (a : Around) (n : Text) (s : SourceData) (ps : List (Text × Text)) (limit : Option Text) → at_key (codes "attempts") (task_value a (record { name = n; source = s; params = ps; timeout = limit })) ≡ unless_null (or_null (option_map (λ m. number (unsigned m)) a.attempts))
task_count a n (config c) ps limit = refl
task_count a n (file p) ps limit = refl

pub at_attempts : (a : Around) (t : Tree) → IsAction t → at_key (codes "attempts") (printed a t) ≡ option_map (λ n. number (unsigned n)) a.attempts
at_attempts a (attempts n t) is = absurd is
at_attempts a (hook w t h) is = absurd is
at_attempts a (task t) is = task_count a t.name t.source t.params t.timeout ∙ count_there a.attempts
at_attempts a t is = count_there a.attempts

-- a job

-- one with these steps in its plan, and with these hooks
abbrev pub planned : JobData → Around → Items → Data
planned j a ds = made (job_fields j ++ (codes "plan", array ds) ∷ hook_fields a)

-- the printed steps of a job's plan
abbrev pub steps_of : (Data → Tree) → Data → Items
steps_of rec d = printed_each (trees_of (each_tree rec (list_at (codes "plan") d)))

pub printed_job : (d : Data) → job_value (job_from d) ≡ planned (job_from d) (around_of (step_tree LEVELS) d) (steps_of (step_tree LEVELS) d)
unfolding job_from plan_from
printed_job d =
    ap (λ fs. made (job_fields (job_from d) ++ fs)) (printed_plan (step_tree LEVELS) d (trees_of (each_tree (step_tree LEVELS) (list_at (codes "plan") d))))

job_has : (j : JobData) (a : Around) (ds : Items) → HasHooks a (planned j a ds)
job_has j a ds = record { on_success = refl; on_failure = refl; on_error = refl; on_abort = refl; ensure = refl }

pub job_hook : (d : Data) (w : When) → at_key (hook_key w) (job_value (job_from d)) ≡ hook_from (step_tree LEVELS) (hook_key w) d
job_hook d w = ap (at_key (hook_key w)) (printed_job d) ∙ hooks_at (step_tree LEVELS) d _ (job_has (job_from d) _ _) w

pub job_plan : (d : Data) → list_at (codes "plan") (job_value (job_from d)) ≡ printed_each (trees_of (each_tree (step_tree LEVELS) (list_at (codes "plan") d)))
job_plan d = ap (list_at (codes "plan")) (printed_job d)

-- they are read as the same: a step, where those in it are

module _ (rec : Data → Tree) (again : (d : Data) → rec (printed alone (rec d)) ≡ rec d) where
  -- what is printed of the step is read as it
  abbrev Again : Tree → Type 0
  Again t = rec (printed alone t) ≡ t

  each_again : (ts : List Tree) → AllByRecursion Again ts → trees_of (each_tree rec (printed_each (trees_of ts))) ≡ trees_of ts
  each_again [] h = refl
  each_again (t ∷ ts) h = ap₂ tree h.0 (each_again ts h.1)

  all_again : (ds : Items) → AllByRecursion Again (each_tree rec ds)
  all_again no_items = tt
  all_again (item d ds) = (again d, all_again ds)

  hook_again : (w : When) (t : Tree) (o : Option Data) → or_else (option_map (λ found. printed alone (rec found)) o) t (λ found. hook w t (rec found)) ≡ or_else o t (λ found. hook w t (rec found))
  hook_again w t None = refl
  hook_again w t (Some d) = ap (hook w t) (again d)

  hook_same : (w : When) (e d : Data) (t : Tree) → at_key (hook_key w) e ≡ hook_from rec (hook_key w) d → with_hook rec w e t ≡ with_hook rec w d t
  unfolding with_hook
  hook_same w e d t h =
      ap (λ o. or_else o t (λ found. hook w t (rec found))) h ∙ hook_again w t (at_key (hook_key w) d)

  hooks_same : (e d : Data) (t : Tree) → ((w : When) → at_key (hook_key w) e ≡ hook_from rec (hook_key w) d) → with_hooks rec e t ≡ with_hooks rec d t
  unfolding with_hooks
  hooks_same e d t h =
      hook_same Ensure e d _ (h Ensure) ∙ ap (with_hook rec Ensure d) (hook_same OnError e d _ (h OnError)
      ∙ ap (with_hook rec OnError d) (hook_same OnAbort e d _ (h OnAbort) ∙ ap (with_hook rec OnAbort d) (hook_same OnFailure e d _ (h OnFailure)
      ∙ ap (with_hook rec OnFailure d) (hook_same OnSuccess e d t (h OnSuccess)))))

  task_read : (a : Around) (n : Text) (s : SourceData) (ps : List (Text × Text)) (limit : Option Text) → action rec (task_value a (record { name = n; source = s; params = ps; timeout = limit })) ≡ task (task_from (task_value a (record { name = n; source = s; params = ps; timeout = limit })))
  unfolding action
  task_read a n (config c) ps limit = refl
  task_read a n (file p) ps limit = refl

  holds_again : (a : Around) → Holds (λ t. action rec (printed a t) ≡ t) Again
  unfolding action holder
  holds_again a = record {
    order = λ ts h. ap in_order (each_again ts h);
    parallel = λ ts fast h. ap (λ us. in_parallel us fast) (each_again ts h);
    trying = λ t h. ap (λ o. or_else o (in_order no_trees) (λ found. tried (rec found))) (not_null alone t) ∙ ap tried h;
  }

  leaves_again : (a : Around) (d : Data) → Leaves (λ t. action rec (printed a t) ≡ t) d
  unfolding action
  leaves_again a d = record {
    getting = λ x. ap get (get_again a d);
    putting = λ x y. ap put (put_again a d);
    doing = λ x y z. task_read a _ _ _ _ ∙ ap task (task_again a d);
  }

  action_again : (a : Around) (d : Data) → action rec (printed a (action rec d)) ≡ action rec d
  action_again a d =
      action-kept Any (λ t. action rec (printed a t) ≡ t) Again rec (λ d h. again d) (holds_again a) d (leaves_again a d) (any_own d)

-- a step's attempts

count_again : (o : Option ℕ) → option_and_then as_u64 (option_and_then as_number (option_map (λ n. number (unsigned n)) o)) ≡ o
count_again None = refl
count_again (Some n) = refl

count_same : (e d : Data) (t : Tree) → at_key (codes "attempts") e ≡ option_map (λ n. number (unsigned n)) (count_of d) → with_attempts e t ≡ with_attempts d t
count_same e d t h =
    ap (λ o. or_else (option_and_then as_u64 (option_and_then as_number o)) t (λ n. attempts n t)) h
    ∙ ap (λ o. or_else o t (λ n. attempts n t)) (count_again (count_of d))

-- the whole step, level by level

step_same : (rec : Data → Tree) (again : (d : Data) → rec (printed alone (rec d)) ≡ rec d) (d : Data) → let e = printed (around_of rec d) (action rec d) in with_hooks rec e (with_attempts e (action rec e)) ≡ with_hooks rec d (with_attempts d (action rec d))
step_same rec again d =
    let a = around_of rec d in
    let e = printed a (action rec d) in
    hooks_same rec again e d _ (at_hook rec d (action rec d) (action_is rec d))
    ∙ ap (with_hooks rec d) (count_same e d _ (at_attempts a (action rec d) (action_is rec d)) ∙ ap (with_attempts d) (action_again rec again a d))

step_again : (n : ℕ) (d : Data) → step_tree n (printed alone (step_tree n d)) ≡ step_tree n d
unfolding step_tree
step_again zero d = refl
step_again (suc n) d = ap (step_tree (suc n)) (printed_step n d) ∙ step_same (step_tree n) (step_again n) d

-- the plan of a job

plan_again : (rec : Data → Tree) (again : (d : Data) → rec (printed alone (rec d)) ≡ rec d) (d e : Data) → HasHooks (around_of rec d) e → with_hooks rec e (in_order (trees_of (each_tree rec (steps_of rec d)))) ≡ with_hooks rec d (in_order (trees_of (each_tree rec (list_at (codes "plan") d))))
plan_again rec again d e h =
    hooks_same rec again e d _ (hooks_at rec d e h)
    ∙ ap (λ ts. with_hooks rec d (in_order ts)) (each_again rec again (each_tree rec (list_at (codes "plan") d)) (all_again rec again (list_at (codes "plan") d)))

job_shown : (j : JobData) (a : Around) (ds : Items) (plan : Tree) → plan_from (planned j a ds) ≡ plan → job_from (planned j a ds) ≡ record j { plan = plan }
unfolding job_from
job_shown j a ds plan same = rw (same, texts_again j.serial_groups) refl

pub job_again : (d : Data) → job_from (job_value (job_from d)) ≡ job_from d
unfolding job_from plan_from
job_again d =
    let rec = step_tree LEVELS in
    ap job_from (printed_job d)
    ∙ job_shown (job_from d) (around_of rec d) (steps_of rec d) (plan_from d) (plan_again rec (step_again LEVELS) d _ (job_has (job_from d) _ _))
