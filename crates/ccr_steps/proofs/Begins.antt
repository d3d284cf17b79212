-- Steps that are begun.
use Rattle.std.proofs.Common.{arith, ◌≡◌, ℕ, zero, suc, ◌+◌, ◌-◌, ◌<◌, Bool, true, false, List, [], ◌∷◌, Option, Some, None, drop, map, length, get_or, drop-cons, add-one, refl, sym, ap, ◌∙◌, subst, append-nil}
use mathlib.Core.Path.{fun_ext}
use Rattle.std.proofs.lemmas.List.{drop-map}
use Rattle.ccr_pipeline.specs.declared.step.When.{When}
use Rattle.ccr_pipeline.specs.Tree.{Text, ConfigData, Tree, GetData, PutData, TaskData, SourceData, config, file, get, put, task, in_order, in_parallel, tried, attempts, hook, trees_of, tree_of}
use Rattle.ccr_pipeline.specs.declared.step.Step.{Step}
use Rattle.ccr_steps.specs.declared.outcome.Outcome.{Outcome}
use Rattle.ccr_steps.specs.declared.outcome.Outcome.TheVariants.{Succeeded, Failed, Errored, Aborted}
use Rattle.ccr_steps.specs.declared.frame.Frame.{Frame}
use Rattle.ccr_steps.specs.declared.frame.Frame.TheVariants.{At, In, Left, Hook}
use Rattle.ccr_steps.specs.Asks.{Chosen, run_task}
use Rattle.ccr_steps.specs.Gains.{GainsData, has_inputs}
use Rattle.ccr_steps.specs.Means.{worse, runs_after}
use Rattle.ccr_steps.specs.Play.{Play, ended, asks, Going, and_then, after_run, runs_if, after_do, and_worse_end, after_parallel, and_worst, after_try, after_attempt, tries, hook_if, after_hooked, play, play_in_order, play_all}
use Rattle.ccr_steps.specs.Frames.{first, more_tries, waiting, Waits, Came, CameUnder, is_aborted, tried_outcome, is_tried_again, ends_if, begins_by, begins_task}
use Rattle.ccr_steps.proofs.Joining.{then_then, then_ended, tries_then, worst_then, worst_last}
use Rattle.ccr_steps.proofs.Under.{came_under, ended_under, under_try, under_tries, under_step, under_hook, under_at, under_all, came_fast}

abbrev task_with : Text → ConfigData → List (Text × Text) → Option Text → TaskData
task_with name k env limit = record { name = name; source = config k; params = env; timeout = limit }

came_leaf : (T : Tree) (g : GainsData) (old : List Frame) → ((c : Chosen) → Waits c T [] first) → ((c : Chosen) → play c T g ≡ waiting c T [] first g) → Came (λ c. play c T g) T g old old None
came_leaf T g old w e = ([], sym (append-nil old), λ c. (w c, e c))

pub came_get : (d : GetData) (g : GainsData) (old : List Frame) → Came (λ c. play c (get d) g) (get d) g old old None
came_get d g old = came_leaf (get d) g old (λ c. (get d, refl, refl)) (λ c. sym (then_ended (play c (get d) g)))

pub came_put : (p : PutData) (g : GainsData) (old : List Frame) → Came (λ c. play c (put p) g) (put p) g old old None
came_put p g old = came_leaf (put p) g old (λ c. (put p, refl, refl)) (λ c. sym (then_ended (play c (put p) g)))

-- by the source, and whether the inputs are there
came_source : (name : Text) (k : ConfigData) (env : List (Text × Text)) (limit : Option Text) (g : GainsData) (old : List Frame) (b : Bool) → has_inputs k.inputs g ≡ b → Came (λ c. play c (task (task_with name k env limit)) g) (task (task_with name k env limit)) g old old (ends_if b)
came_source name k env limit g old false e = (refl, λ c. ap (λ b. runs_if b k env g) e)
came_source name k env limit g old true e =
    came_leaf (task (task_with name k env limit)) g old (λ c. (task (task_with name k env limit), refl, refl))
    (λ c. ap (λ b. runs_if b k env g) e ∙ sym (then_ended (asks (run_task k env) (λ x. after_run k.outputs x g))))

came_by : (name : Text) (s : SourceData) (env : List (Text × Text)) (limit : Option Text) (g : GainsData) (old : List Frame) → Came (λ c. play c (task (record { name = name; source = s; params = env; timeout = limit })) g) (task (record { name = name; source = s; params = env; timeout = limit })) g old old (begins_by s g)
came_by name (config k) env limit g old = came_source name k env limit g old (has_inputs k.inputs g) refl
came_by name (file path) env limit g old = came_leaf (task (record { name = name; source = file path; params = env; timeout = limit })) g old (λ c. (task (record { name = name; source = file path; params = env; timeout = limit }), refl, refl)) (λ c. sym (then_ended (play c (task (record { name = name; source = file path; params = env; timeout = limit })) g)))

pub came_task : (t : TaskData) (g : GainsData) (old : List Frame) → Came (λ c. play c (task t) g) (task t) g old old (begins_task t g)
came_task t g old = came_by t.name t.source t.params t.timeout g old

-- an outcome under a try
tried_end : (o : Outcome) (g : GainsData) → after_try o g ≡ ended (tried_outcome o) g
tried_end Succeeded g = refl
tried_end Failed g = refl
tried_end Errored g = refl
tried_end Aborted g = refl

-- tries that end without an ask
tries_end : (k : ℕ) (now : Going) (o : Outcome) (g : GainsData) → now g ≡ ended o g → tries k now g ≡ ended o g
tries_end zero now o g e = e
tries_end (suc n) now Succeeded g e = ap (λ p. and_then p (after_attempt (tries n now))) e
tries_end (suc n) now Failed g e = ap (λ p. and_then p (after_attempt (tries n now))) e ∙ tries_end n now Failed g e
tries_end (suc n) now Errored g e = ap (λ p. and_then p (after_attempt (tries n now))) e ∙ tries_end n now Errored g e
tries_end (suc n) now Aborted g e = ap (λ p. and_then p (after_attempt (tries n now))) e

-- a step that was begun, or goes on, under a try
pub try_none : (p : Chosen → Play) (t : Tree) (q : Chosen → Play) (g : GainsData) (old new : List Frame) (r : Option Outcome) → ((c : Chosen) → q c ≡ and_then (p c) after_try) → r ≡ None → CameUnder In p t g old new r → Came q (tried t) g old new None
try_none p t q g old new r e none came = came_under p q In t (tried t) (λ c. after_try) g old new r (under_try t) e none came

pub try_some : (p : Chosen → Play) (t : Tree) (q : Chosen → Play) (g : GainsData) (old new : List Frame) (r : Option Outcome) (o : Outcome) → ((c : Chosen) → q c ≡ and_then (p c) after_try) → r ≡ Some o → CameUnder In p t g old new r → Came q (tried t) g old new (Some (tried_outcome o))
try_some p t q g old new r o e some came =
    let got = ended_under p q In t (λ c. after_try) g old new r o e some came in
    (got.0, λ c. got.1 c ∙ tried_end o g)

-- a try begun
pub tries_came : (left : ℕ) (t : Tree) (g : GainsData) (old new : List Frame) (n : ℕ) (r : Option Outcome) → CameUnder (Left left) (λ c. play c t g) t g old new r → Came (λ c. tries left (play c t) g) (attempts n t) g old new r
tries_came left t g old new n None came = came_under (λ c. play c t g) (λ c. tries left (play c t) g) (Left left) t (attempts n t) (λ c. more_tries left (play c t)) g old new None (under_tries left n t) (λ c. tries_then left (play c t) g) refl came
tries_came left t g old new n (Some o) came = (came.0, λ c. tries_end left (play c t) o g (came.1 c))

pub hook_none : (w : When) (h t : Tree) (o : Outcome) (g : GainsData) (old new : List Frame) (r : Option Outcome) → runs_after w o ≡ true → r ≡ None → CameUnder (Hook o) (λ c. play c h g) h g old new r → Came (λ c. after_hooked w (play c h) o g) (hook w t h) g old new None
hook_none w h t o g old new r e none came = came_under (λ c. play c h g) (λ c. after_hooked w (play c h) o g) (Hook o) h (hook w t h) (λ c. and_worse_end o) g old new r (under_hook w t h o) (λ c. ap (λ b. hook_if b (play c h) o g) e) none came

-- a list from one of its members on
pub from_cut : (steps : List Step) (i : ℕ) (s : Step) → i < length steps → s ≡ get_or steps i s → map tree_of (drop i steps) ≡ tree_of s ∷ map tree_of (drop (i + 1) steps)
from_cut steps i s l is = let cut : drop i steps ≡ s ∷ drop (i + 1) steps = cc (drop-cons steps i s l, add-one i) in ap (map tree_of) cut

pub list_cut : (steps : List Step) (i : ℕ) (s : Step) → i < length steps → s ≡ get_or steps i s → drop i (map tree_of steps) ≡ tree_of s ∷ map tree_of (drop (i + 1) steps)
list_cut steps i s l is = drop-map tree_of i steps ∙ from_cut steps i s l is

module _ (steps : List Step) (i : ℕ) (s : Step) (l : i < length steps) (is : s ≡ get_or steps i s) (g : GainsData) (old new : List Frame) (r : Option Outcome) (p : Chosen → Play) where
  in_order_now : ((c : Chosen) → p c ≡ play_in_order c (trees_of (map tree_of (drop i steps))) g) → (c : Chosen) → p c ≡ and_then (play c (tree_of s) g) (after_do (play_in_order c (trees_of (map tree_of (drop (i + 1) steps)))))
  in_order_now e c = e c ∙ ap (λ ts. play_in_order c (trees_of ts) g) (from_cut steps i s l is)

  pub in_order_none : (worst : Outcome) → ((c : Chosen) → p c ≡ play_in_order c (trees_of (map tree_of (drop i steps))) g) → r ≡ None → CameUnder (At i worst) (λ c. play c (tree_of s) g) (tree_of s) g old new r → Came p (in_order (trees_of (map tree_of steps))) g old new None
  in_order_none worst e none came =
      came_under (λ c. play c (tree_of s) g) p (At i worst) (tree_of s) (in_order (trees_of (map tree_of steps))) (λ c. after_do (play_in_order c (trees_of (map tree_of (drop (i + 1) steps))))) g old new r
      (under_at (map tree_of steps) i (tree_of s) (map tree_of (drop (i + 1) steps)) worst (list_cut steps i s l is)) (in_order_now e) none came

  all_now : (worst : Outcome) → ((c : Chosen) → p c ≡ and_then (play_all c (trees_of (map tree_of (drop i steps))) g) (and_worse_end worst)) → (c : Chosen) → p c ≡ and_then (play c (tree_of s) g) (and_worst worst (play_all c (trees_of (map tree_of (drop (i + 1) steps)))))
  all_now worst e c = e c ∙ ap (λ ts. and_then (play_all c (trees_of ts) g) (and_worse_end worst)) (from_cut steps i s l is) ∙ then_then (play c (tree_of s) g) (after_parallel (play_all c (trees_of (map tree_of (drop (i + 1) steps))))) (and_worse_end worst)

  pub all_none : (worst : Outcome) → ((c : Chosen) → p c ≡ and_then (play_all c (trees_of (map tree_of (drop i steps))) g) (and_worse_end worst)) → r ≡ None → CameUnder (At i worst) (λ c. play c (tree_of s) g) (tree_of s) g old new r → Came p (in_parallel (trees_of (map tree_of steps)) false) g old new None
  all_none worst e none came =
      came_under (λ c. play c (tree_of s) g) p (At i worst) (tree_of s) (in_parallel (trees_of (map tree_of steps)) false) (λ c. and_worst worst (play_all c (trees_of (map tree_of (drop (i + 1) steps))))) g old new r
      (under_all (map tree_of steps) i (tree_of s) (map tree_of (drop (i + 1) steps)) worst (list_cut steps i s l is)) (all_now worst e) none came

  all_ended : (worst o : Outcome) → ((c : Chosen) → p c ≡ and_then (play_all c (trees_of (map tree_of (drop i steps))) g) (and_worse_end worst)) → r ≡ Some o → CameUnder (At i worst) (λ c. play c (tree_of s) g) (tree_of s) g old new r → (new ≡ old) × ((c : Chosen) → p c ≡ and_worst worst (play_all c (trees_of (map tree_of (drop (i + 1) steps)))) o g)
  all_ended worst o e some came = ended_under (λ c. play c (tree_of s) g) p (At i worst) (tree_of s) (λ c. and_worst worst (play_all c (trees_of (map tree_of (drop (i + 1) steps))))) g old new r o (all_now worst e) some came

  pub all_some : (worst o : Outcome) → is_aborted o ≡ false → ((c : Chosen) → p c ≡ and_then (play_all c (trees_of (map tree_of (drop i steps))) g) (and_worse_end worst)) → r ≡ Some o → CameUnder (At i worst) (λ c. play c (tree_of s) g) (tree_of s) g old new r → (new ≡ old) × ((c : Chosen) → p c ≡ and_then (play_all c (trees_of (map tree_of (drop (i + 1) steps))) g) (and_worse_end (worse worst o)))
  all_some worst o on e some came =
      let got = all_ended worst o e some came in
      (got.0, λ c. got.1 c ∙ worst_then (play_all c (trees_of (map tree_of (drop (i + 1) steps)))) worst o g on)

  pub all_last : (worst o : Outcome) → is_aborted o ≡ true → ((c : Chosen) → p c ≡ and_then (play_all c (trees_of (map tree_of (drop i steps))) g) (and_worse_end worst)) → r ≡ Some o → CameUnder (At i worst) (λ c. play c (tree_of s) g) (tree_of s) g old new r → (new ≡ old) × ((c : Chosen) → p c ≡ ended o g)
  all_last worst o off e some came =
      let got = all_ended worst o e some came in
      (got.0, λ c. got.1 c ∙ worst_last (play_all c (trees_of (map tree_of (drop (i + 1) steps)))) worst o g off)

module _ (T : Tree) (g : GainsData) (old new : List Frame) (r : Option Outcome) where
  -- a step begun is one of its tree
  pub begun_at : (t : Tree) → T ≡ t → Came (λ c. play c t g) t g old new r → Came (λ c. play c T g) T g old new r
  begun_at t e came = subst (λ x. Came (λ c. play c x g) x g old new r) (sym e) came

  pub begun_in_order : (list : List Step) → T ≡ in_order (trees_of (map tree_of list)) → Came (λ c. play_in_order c (trees_of (map tree_of (drop 0 list))) g) (in_order (trees_of (map tree_of list))) g old new r → Came (λ c. play c T g) T g old new r
  begun_in_order list e came = begun_at (in_order (trees_of (map tree_of list))) e came

  pub begun_fast : (list : List Step) (fast : Bool) → fast ≡ true → T ≡ in_parallel (trees_of (map tree_of list)) fast → Came (λ c. play_in_order c (trees_of (map tree_of (drop 0 list))) g) (in_order (trees_of (map tree_of list))) g old new r → Came (λ c. play c T g) T g old new r
  begun_fast list fast b e came = begun_at (in_parallel (trees_of (map tree_of list)) true) (e ∙ ap (λ x. in_parallel (trees_of (map tree_of list)) x) b) (came_fast (λ c. play_in_order c (trees_of (map tree_of list)) g) (trees_of (map tree_of list)) g old new r came)

  same_came : (p q : Chosen → Play) (t : Tree) → ((c : Chosen) → p c ≡ q c) → Came q t g old new r → Came p t g old new r
  same_came p q t e came = subst (λ f. Came f t g old new r) (fun_ext (λ c. sym (e c))) came

  pub begun_all : (list : List Step) (fast : Bool) → fast ≡ false → T ≡ in_parallel (trees_of (map tree_of list)) fast → Came (λ c. and_then (play_all c (trees_of (map tree_of (drop 0 list))) g) (and_worse_end Succeeded)) (in_parallel (trees_of (map tree_of list)) false) g old new r → Came (λ c. play c T g) T g old new r
  begun_all list fast b e came =
      begun_at (in_parallel (trees_of (map tree_of list)) false) (e ∙ ap (λ x. in_parallel (trees_of (map tree_of list)) x) b)
      (same_came (λ c. play_all c (trees_of (map tree_of list)) g) (λ c. and_then (play_all c (trees_of (map tree_of list)) g) (and_worse_end Succeeded)) (in_parallel (trees_of (map tree_of list)) false) (λ c. sym (then_ended (play_all c (trees_of (map tree_of list)) g))) came)

  pub begun_try_none : (t : Tree) → T ≡ tried t → r ≡ None → CameUnder In (λ c. play c t g) t g old new r → Came (λ c. play c T g) T g old new None
  begun_try_none t e none came = subst (λ x. Came (λ c. play c x g) x g old new None) (sym e) (try_none (λ c. play c t g) t (λ c. play c (tried t) g) g old new r (λ c. refl) none came)

  pub begun_tries : (n k : ℕ) (t : Tree) → k ≡ n - 1 → T ≡ attempts n t → ((m : ℕ) → Came (λ c. tries k (play c t) g) (attempts m t) g old new r) → Came (λ c. play c T g) T g old new r
  begun_tries n k t left e came = begun_at (attempts n t) e (subst (λ k. Came (λ c. tries k (play c t) g) (attempts n t) g old new r) left (came n))

  pub begun_step_none : (w : When) (t h : Tree) → T ≡ hook w t h → r ≡ None → CameUnder In (λ c. play c t g) t g old new r → Came (λ c. play c T g) T g old new None
  begun_step_none w t h e none came = subst (λ x. Came (λ c. play c x g) x g old new None) (sym e) (came_under (λ c. play c t g) (λ c. play c (hook w t h) g) In t (hook w t h) (λ c. after_hooked w (play c h)) g old new r (under_step w t h) (λ c. refl) none came)

-- the hook of a step that ended
pub begun_step_some : (T : Tree) (g : GainsData) (old mid new : List Frame) (r : Option Outcome) (w : When) (t h : Tree) (o : Outcome) (s : Option Outcome) → T ≡ hook w t h → r ≡ Some o → CameUnder In (λ c. play c t g) t g old mid r → ((u : Tree) → Came (λ c. after_hooked w (play c h) o g) (hook w u h) g mid new s) → Came (λ c. play c T g) T g old new s
begun_step_some T g old mid new r w t h o s e some came after =
    let got = ended_under (λ c. play c t g) (λ c. play c (hook w t h) g) In t (λ c. after_hooked w (play c h)) g old mid r o (λ c. refl) some came in
    let now = subst (λ l. Came (λ c. after_hooked w (play c h) o g) (hook w t h) g l new s) got.0 (after t) in
    subst (λ x. Came (λ c. play c x g) x g old new s) (sym e) (subst (λ f. Came f (hook w t h) g old new s) (fun_ext (λ c. sym (got.1 c))) now)

retry_on : (n : ℕ) (now : Going) (o : Outcome) (g : GainsData) → is_tried_again o ≡ true → more_tries (suc n) now o g ≡ tries n now g
retry_on n now Succeeded g e = absurd (cc (e))
retry_on n now Failed g e = refl
retry_on n now Errored g e = refl
retry_on n now Aborted g e = absurd (cc (e))

pub retry_same : (left : ℕ) (now : Going) (o : Outcome) (g : GainsData) → 0 < left → is_tried_again o ≡ true → more_tries left now o g ≡ tries (left - 1) now g
retry_same zero now o g l e = absurd (omega arith)
retry_same (suc n) now o g l e = let one : suc n - 1 ≡ n = omega arith in retry_on n now o g e ∙ ap (λ k. tries k now g) (sym one)

pub retry_came : (left : ℕ) (t : Tree) (o : Outcome) (g : GainsData) (old new : List Frame) (n : ℕ) (r : Option Outcome) → 0 < left → is_tried_again o ≡ true → Came (λ c. tries (left - 1) (play c t) g) (attempts n t) g old new r → Came (λ c. more_tries left (play c t) o g) (attempts n t) g old new r
retry_came left t o g old new n r l e came = same_came T g old new r (λ c. more_tries left (play c t) o g) (λ c. tries (left - 1) (play c t) g) (attempts n t) (λ c. retry_same left (play c t) o g l e) came
  where
    T : Tree
    T = attempts n t
