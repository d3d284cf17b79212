-- Where no fault is present in a job, its plan's inputs are the gets of its text, in the order in which they are read.
use Rattle.std.proofs.Common.{◌≡◌, ℕ, zero, suc, ◌+◌, ◌<◌, List, [], ◌∷◌, ◌++◌, map, Bool, true, false, cond, nat_lt, refl, sym, ap, Option, Some, None, arith, append_assoc, option_and_then, is_some, codes, if◌then◌else◌}
use Rattle.std.proofs.lemmas.Bool.Decides.{nat_tests}
use Rattle.std.proofs.lemmas.Grind.{flat_map-append}
use Rattle.std.proofs.lemmas.List.{append-nil}
use Rattle.std.specs.List.{flat_map}
use Rattle.std.specs.Option.{IfSome}
use Rattle.serde_json.specs.Data.{Data, null, boolean, number, string, array, object, Items, no_items, item}
use Rattle.serde_json.specs.Find.{as_number, as_u64}
use Rattle.ccr_pipeline.specs.declared.fault.Rule.TheVariants as rule
use Rattle.ccr_pipeline.specs.declared.schema.Schema.TheVariants as schema
use Rattle.ccr_pipeline.specs.declared.step.When.{When}
use Rattle.ccr_pipeline.specs.declared.step.When.TheVariants.{OnSuccess, OnFailure, OnError, OnAbort, Ensure}
use Rattle.ccr_pipeline.specs.Faults.{Path, unless}
use Rattle.ccr_pipeline.specs.Inputs.{InputData, input_from, inputs, inputs_in}
use Rattle.ccr_pipeline.specs.JobRules.{job_faults, job_rest, members}
use Rattle.ccr_pipeline.specs.Keys.{at_key, or_else, items_in, list_at, path_below, path_at}
use Rattle.ccr_pipeline.specs.Meaning.{get_from, put_from, task_from}
use Rattle.ccr_pipeline.specs.Names.{names_at}
use Rattle.ccr_pipeline.specs.Objects.{object_faults, value_faults}
use Rattle.ccr_pipeline.specs.Pipelines.{job_from, jobs_in}
use Rattle.ccr_pipeline.specs.Places.{Opening, Closing, Spot, spot_of, each_step, steps_in, step_at, own_steps, hook_steps, steps_from, plan_steps, job_hooks, tries_below}
use Rattle.ccr_pipeline.specs.Plans.{plan_from, input_by, input_at, inputs_read}
use Rattle.ccr_pipeline.specs.StepRules.{kinds, shape_faults, kind_faults, own_keys, opening_faults}
use Rattle.ccr_pipeline.specs.Steps.{step_tree, with_hook, with_hooks, with_attempts, each_tree, parallel_items, holder, action}
use Rattle.ccr_pipeline.specs.Tree.{Tree, GetData, PutData, TaskData, get, put, task, in_order, in_parallel, tried, attempts, hook, trees_of}
use Rattle.ccr_pipeline.proofs.Inside.{EachItem, OwnSteps, Hooks}
use Rattle.ccr_pipeline.proofs.Kept.{holder_of, attempts-kept, action-kept}
use Rattle.ccr_pipeline.proofs.Rows.{nil_left, nil_right, passes}
use Rattle.ccr_pipeline.proofs.Shallow.{no_level}
use Rattle.ccr_pipeline.proofs.Unfaulted.{Unfaulted, Opened, opened, Planned, planned}

-- a tree whose outermost hook isn't on_abort
abbrev NotAbort : Tree → Type 0
NotAbort (hook OnAbort t h) = ⊥
NotAbort t = Unit {0}

inputs_of_error : (t h : Tree) → NotAbort t → inputs (hook OnError t h) ≡ inputs t ++ inputs h
inputs_of_error (get g) h n = refl
inputs_of_error (put p) h n = refl
inputs_of_error (task t) h n = refl
inputs_of_error (in_order ts) h n = refl
inputs_of_error (in_parallel ts fast) h n = refl
inputs_of_error (tried t) h n = refl
inputs_of_error (attempts m t) h n = refl
inputs_of_error (hook OnSuccess t g) h n = refl
inputs_of_error (hook OnFailure t g) h n = refl
inputs_of_error (hook OnError t g) h n = refl
inputs_of_error (hook OnAbort t g) h n = absurd n
inputs_of_error (hook Ensure t g) h n = refl

-- a hook whose inputs come right after its step's, whatever the step
abbrev IsPlain : When → Type 0
IsPlain OnError = ⊥
IsPlain w = Unit {0}

inputs_of_hook : (w : When) (t h : Tree) → IsPlain w → inputs (hook w t h) ≡ inputs t ++ inputs h
inputs_of_hook OnSuccess t h p = refl
inputs_of_hook OnFailure t h p = refl
inputs_of_hook OnError t h p = absurd p
inputs_of_hook OnAbort t h p = refl
inputs_of_hook Ensure t h p = refl

module _ (rec : Data → Tree) where
  -- the inputs of what stands at a hook
  abbrev hook_inputs : Option Data → List InputData
  hook_inputs o = or_else o [] (λ found. inputs (rec found))

  abbrev Hooked : When → Option Data → Tree → Tree
  Hooked w o t = or_else o t (λ found. hook w t (rec found))

  in_hook : (w : When) (o : Option Data) (t : Tree) → IsPlain w → inputs (Hooked w o t) ≡ inputs t ++ hook_inputs o
  in_hook w None t p = sym (append-nil (inputs t))
  in_hook w (Some found) t p = inputs_of_hook w t (rec found) p

  in_error : (e a : Option Data) (t : Tree) → NotAbort t → inputs (Hooked OnError e (Hooked OnAbort a t)) ≡ inputs t ++ (hook_inputs e ++ hook_inputs a)
  in_error None None t n = sym (append-nil (inputs t))
  in_error None (Some a) t n = refl
  in_error (Some e) None t n = rw append-nil (inputs_of_error t (rec e) n)
  in_error (Some e) (Some a) t n = refl

  not_abort_success : (o : Option Data) (t : Tree) → NotAbort t → NotAbort (Hooked OnSuccess o t)
  not_abort_success None t h = h
  not_abort_success (Some found) t h = tt

  not_abort_failure : (o : Option Data) (t : Tree) → NotAbort t → NotAbort (Hooked OnFailure o t)
  not_abort_failure None t h = h
  not_abort_failure (Some found) t h = tt

  -- the inputs of the hooks of a step
  abbrev all_hook_inputs : Data → List InputData
  all_hook_inputs d =
      hook_inputs (at_key (codes "on_success") d) ++ (hook_inputs (at_key (codes "on_failure") d)
      ++ (hook_inputs (at_key (codes "on_error") d) ++ (hook_inputs (at_key (codes "on_abort") d)
      ++ hook_inputs (at_key (codes "ensure") d))))

  in_hooks : (d : Data) (t : Tree) → NotAbort t → inputs (with_hooks rec d t) ≡ inputs t ++ all_hook_inputs d
  unfolding with_hooks with_hook
  in_hooks d t n =
      let one : Tree = Hooked OnSuccess (at_key (codes "on_success") d) t in
      let two : Tree = Hooked OnFailure (at_key (codes "on_failure") d) one in
      let three : Tree = Hooked OnError (at_key (codes "on_error") d) (Hooked OnAbort (at_key (codes "on_abort") d) two) in
      let first : NotAbort one = not_abort_success (at_key (codes "on_success") d) t n in
      let inner : NotAbort two = not_abort_failure (at_key (codes "on_failure") d) one first in
      rw (
        in_hook Ensure (at_key (codes "ensure") d) three tt,
        in_error (at_key (codes "on_error") d) (at_key (codes "on_abort") d) two inner,
        in_hook OnFailure (at_key (codes "on_failure") d) one tt,
        in_hook OnSuccess (at_key (codes "on_success") d) t tt,
      ) (simp append_assoc refl)

-- how many of three keys have something
abbrev pub held : Option Data → Option Data → Option Data → ℕ
held x y z = cond (is_some x) 1 0 + (cond (is_some y) 1 0 + cond (is_some z) 1 0)

-- how many of the keys of a step's kind have something
abbrev pub having : Bool → Bool → Bool → ℕ → ℕ
having a b c n = cond a 1 0 + (cond b 1 0 + (cond c 1 0 + n))

few_kinds : (a b c x y z : ℕ) → nat_lt (((((0 + a + b) + c) + x) + y) + z) 2 ≡ true → a + (b + (c + (x + (y + z)))) < 2
few_kinds a b c x y z e = grind (arith, nat_tests, e)

-- a step without a fault before its steps has at most one of them
pub one_kind : (names : List (List ℕ)) (p : Path) (n : ℕ) (d : Data) → opening_faults names p n d ≡ [] → having (is_some (at_key (codes "get") d)) (is_some (at_key (codes "put") d)) (is_some (at_key (codes "task") d)) (held (at_key (codes "do") d) (at_key (codes "in_parallel") d) (at_key (codes "try") d)) < 2
unfolding opening_faults kind_faults
one_kind names p n d e =
    let kind : kind_faults p d ≡ [] = nil_left _ (own_keys names p d) (nil_right (shape_faults p n d) _ e) in
    let few = nil_right (unless (nat_lt 0 (kinds d)) rule.OneStep p) (unless (nat_lt (kinds d) 2) rule.OnlyOneStep p) kind in
    few_kinds _ _ _ _ _ _ (passes (nat_lt (kinds d) 2) rule.OnlyOneStep p few)

-- a step of one kind has no inputs but those of what this kind's key holds
by_kind : (a b c : Bool) (n : ℕ) (g : GetData) (p : PutData) (k : TaskData) (t : Tree) (xs : List InputData) → having a b c n < 2 → (n ≡ 0 → xs ≡ []) → (n < 2 → inputs t ≡ xs) → inputs (if a then get g else (if b then put p else (if c then task k else t))) ≡ (if a then input_from g ∷ [] else []) ++ xs
by_kind true b c n g p k t xs few none some = rw (none (omega (arith, few))) refl
by_kind false true c n g p k t xs few none some = rw (none (omega (arith, few))) refl
by_kind false false true n g p k t xs few none some = rw (none (omega (arith, few))) refl
by_kind false false false n g p k t xs few none some = some (omega (arith, few))

-- the inputs of a step of so many levels are the gets of its text
abbrev Shown : ℕ → Data → Type 0
Shown n d = (t : ℕ) (p : Path) → inputs (step_tree n d) ≡ flat_map input_at (steps_from n t p d)

module _ (n u : ℕ) (down : (d : Data) → Unfaulted n u d → Shown n d) (t : ℕ) where
  each : (p : Path) (i : ℕ) (ds : Items) → EachItem (Unfaulted n u) ds → inputs_in (trees_of (each_tree (step_tree n) ds)) ≡ flat_map input_at (each_step (steps_from n) t p i ds)
  each p i no_items h = refl
  each p i (item d ds) h = rw (flat_map-append, down d h.0 t (path_at p i), each p (i + 1) ds h.1) refl

  -- an in_parallel is a list, or an object with a list of steps
  in_case : (p q : Path) (d : Data) → EachItem (Unfaulted n u) (items_in d) → EachItem (Unfaulted n u) (list_at (codes "steps") d) → inputs_in (trees_of (each_tree (step_tree n) (parallel_items d))) ≡ flat_map input_at (each_step (steps_from n) t p 0 (items_in d) ++ steps_in (steps_from n) t q (codes "steps") d)
  unfolding steps_in
  in_case p q null h g = refl
  in_case p q (boolean b) h g = refl
  in_case p q (number m) h g = refl
  in_case p q (string s) h g = refl
  in_case p q (array ds) h g = rw append-nil (each p 0 ds h)
  in_case p q (object ms) h g = each (path_below q (codes "steps")) 0 (list_at (codes "steps") (object ms)) g

  module _ (p : Path) where
    -- the steps in a do, an in_parallel and a try
    abbrev spots_in : Option Data → Option Data → Option Data → List Spot
    spots_in x y z =
        each_step (steps_from n) t (path_below p (codes "do")) 0 (or_else x no_items items_in)
        ++ (each_step (steps_from n) t (path_below p (codes "in_parallel")) 0 (or_else y no_items items_in)
        ++ (or_else y [] (steps_in (steps_from n) t (path_below p (codes "in_parallel")) (codes "steps"))
        ++ or_else z [] (steps_from n t (path_below p (codes "try")))))

    none_held : (x y z : Option Data) → held x y z ≡ 0 → spots_in x y z ≡ []
    none_held None None None e = refl
    none_held None None (Some d) e = absurd (omega (arith, e))
    none_held None (Some d) z e = absurd (omega (arith, e))
    none_held (Some d) y z e = absurd (omega (arith, e))

    one_held : (x y z : Option Data) → held x y z < 2 → EachItem (Unfaulted n u) (or_else x no_items items_in) → EachItem (Unfaulted n u) (or_else y no_items items_in) → IfSome y (λ found. EachItem (Unfaulted n u) (list_at (codes "steps") found)) → IfSome z (Unfaulted n u) → inputs (holder_of (step_tree n) x y z) ≡ flat_map input_at (spots_in x y z)
    one_held None None None few order parallel steps trying = refl
    one_held None None (Some d) few order parallel steps trying = down d trying t (path_below p (codes "try"))
    one_held None (Some d) None few order parallel steps trying =
        let q : Path = path_below p (codes "in_parallel") in
        rw append-nil (in_case q q d parallel steps)
    one_held None (Some d) (Some a) few order parallel steps trying = absurd (omega (arith, few))
    one_held (Some d) None None few order parallel steps trying =
        rw (append-nil (each_step (steps_from n) t (path_below p (codes "do")) 0 (items_in d)))
        (each (path_below p (codes "do")) 0 (items_in d) order)
    one_held (Some d) None (Some a) few order parallel steps trying = absurd (omega (arith, few))
    one_held (Some d) (Some a) z few order parallel steps trying = absurd (omega (arith, few))

    in_action : (names : List (List ℕ)) (q : Path) (d : Data) → opening_faults names q (suc n) d ≡ [] → OwnSteps (Unfaulted n u) d → inputs (action (step_tree n) d) ≡ input_by Opening d ++ flat_map input_at (own_steps (steps_from n) t p d)
    unfolding action holder own_steps steps_in step_at
    in_action names q d e own =
        let x : Option Data = at_key (codes "do") d in
        let y : Option Data = at_key (codes "in_parallel") d in
        let z : Option Data = at_key (codes "try") d in
        by_kind (is_some (at_key (codes "get") d)) (is_some (at_key (codes "put") d)) (is_some (at_key (codes "task") d))
        (held x y z) (get_from d) (put_from d) (task_from d) (holder_of (step_tree n) x y z) _ (one_kind names q (suc n) d e)
        (λ none. ap (flat_map input_at) (none_held x y z none))
        (λ few. one_held x y z few own.order own.parallel own.steps own.trying)

  at_step : (p : Path) (o : Option Data) → IfSome o (Unfaulted n u) → hook_inputs (step_tree n) o ≡ flat_map input_at (or_else o [] (steps_from n t p))
  at_step p None h = refl
  at_step p (Some found) h = down found h t p

  with_all : (p : Path) (d : Data) (s : Tree) → NotAbort s → Hooks (Unfaulted n u) d → inputs (with_hooks (step_tree n) d s) ≡ inputs s ++ flat_map input_at (hook_steps (steps_from n) t p d)
  unfolding hook_steps step_at
  with_all p d s a hooks =
      rw (
        in_hooks (step_tree n) d s a,
        at_step (path_below p (codes "on_success")) (at_key (codes "on_success") d) hooks.on_success,
        at_step (path_below p (codes "on_failure")) (at_key (codes "on_failure") d) hooks.on_failure,
        at_step (path_below p (codes "on_error")) (at_key (codes "on_error") d) hooks.on_error,
        at_step (path_below p (codes "on_abort")) (at_key (codes "on_abort") d) hooks.on_abort,
        at_step (path_below p (codes "ensure")) (at_key (codes "ensure") d) hooks.ensure,
      ) (simp flat_map-append refl)

plain_action : (n u : ℕ) (d : Data) → OwnSteps (Unfaulted n u) d → NotAbort (action (step_tree n) d)
plain_action n u d own =
    action-kept (Unfaulted n u) NotAbort (λ t. Unit {0}) (step_tree n) (λ c h. tt)
    (record { order = λ ts h. tt; parallel = λ ts fast h. tt; trying = λ t h. tt }) d
    (record { getting = λ a. tt; putting = λ a b. tt; doing = λ a b c. tt }) own

in_attempts : (o : Option ℕ) (t : Tree) → inputs (or_else o t (λ n. attempts n t)) ≡ inputs t
in_attempts None t = refl
in_attempts (Some n) t = refl

shown : (n u : ℕ) (d : Data) → Unfaulted n u d → Shown n d
unfolding step_tree steps_from
shown zero u d h t p = absurd (no_level h.1.0 h.0 d (nil_left _ _ h.1.1))
shown (suc n) u d h t p =
    let o : Opened n u d = opened n u d h in
    let v : ℕ = tries_below u d in
    let w : ℕ = tries_below t d in
    let number : Option ℕ = option_and_then as_u64 (option_and_then as_number (at_key (codes "attempts") d)) in
    let plain = attempts-kept NotAbort (λ m s k. tt) number (action (step_tree n) d) (plain_action n v d o.own) in
    let all = with_all n v (shown n v) w p d (with_attempts d (action (step_tree n) d)) plain o.hooks in
    let acted = in_action n v (shown n v) w p o.names o.path d o.opening o.own in
    let after : List Spot = spot_of Closing p (suc n) t d ∷ hook_steps (steps_from n) w p d in
    let read = flat_map-append input_at (own_steps (steps_from n) w p d) after in
    rw (all, in_attempts number (action (step_tree n) d), acted, read, append_assoc) refl

pub ordered_inputs : (p : Path) (d : Data) → job_rest p d ≡ [] → inputs (plan_from d) ≡ flat_map input_at (plan_steps p d ++ job_hooks p d)
unfolding plan_from steps_in
ordered_inputs p d e =
    let plan : Planned d = planned p d e in
    let steps = each 30 1 (shown 30 1) 1 (path_below p (codes "plan")) 0 (list_at (codes "plan") d) plan.steps in
    let order : Tree = in_order (trees_of (each_tree (step_tree 30) (list_at (codes "plan") d))) in
    let all = with_all 30 1 (shown 30 1) 1 p d order tt plan.hooks in
    rw (all, flat_map-append, steps) refl

pub jobs_ordered : (names : List (List ℕ)) (i : ℕ) (ds : Items) → members job_faults names (codes "jobs") i ds ≡ [] → map (λ j. inputs j.plan) (jobs_in ds) ≡ inputs_read i ds
unfolding job_from
jobs_ordered names i no_items e = refl
jobs_ordered names i (item d ds) e =
    let p : Path = path_at (codes "jobs") i in
    let own : job_faults names p d ≡ [] = nil_left (job_faults names p d) _ e in
    let rest : job_rest p d ≡ [] = nil_right (object_faults (value_faults 3) names schema.Job p d) _ own in
    let others = nil_right (job_faults names p d) _ e in
    rw (ordered_inputs p d rest, jobs_ordered (names ++ names_at (codes "name") d) (i + 1) ds others) refl
