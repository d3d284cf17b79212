-- Of a pipeline without its unused keys, no key is unused but the timeouts of its gets, puts and tasks, if they stay.
use Rattle.std.proofs.Common.{◌≡◌, ℕ, zero, suc, ◌+◌, ◌<◌, List, [], ◌∷◌, ◌++◌, map, ◌&&◌, ◌||◌, not, Bool, true, false, Option, Some, None, refl, sym, subst, ap, ap₂, ◌∙◌, option_map, is_some, codes, if◌then◌else◌, arith, Result, Ok, Err, IfOk}
use Rattle.std.proofs.lemmas.Grind.{flat_map-append}
use Rattle.std.proofs.lemmas.Slice.Eq.{bytes_eq-Decides}
use Rattle.std.specs.List.{flat_map}
use Rattle.std.specs.Option.{IfSome}
use Rattle.std.specs.Str.{bytes_eq}
use Rattle.serde_json.specs.Data.{Data, Items, no_items, item}
use Rattle.ccr_pipeline.specs.declared.schema.Kind.TheVariants as kind
use Rattle.ccr_pipeline.specs.declared.schema.Need.TheVariants.{May}
use Rattle.ccr_pipeline.specs.declared.schema.Schema.{Schema}
use Rattle.ccr_pipeline.specs.declared.schema.Schema.TheVariants as schema
use Rattle.ccr_pipeline.specs.declared.step.When.TheVariants.{OnSuccess, OnFailure, OnError, OnAbort, Ensure}
use Rattle.ccr_pipeline.specs.declared.fault.ReadFault.{ReadFault}
use Rattle.ccr_pipeline.specs.Faults.{Path, Checks}
use Rattle.ccr_pipeline.specs.JobRules.{job_faults, members}
use Rattle.ccr_pipeline.specs.Keys.{at_key, or_else, items_in, list_at, path_below, path_at}
use Rattle.ccr_pipeline.specs.Names.{names_at}
use Rattle.ccr_pipeline.specs.Objects.{row_names, broken, row_faults, key_faults, object_faults, value_faults}
use Rattle.ccr_pipeline.specs.Places.{Part, Opening, Closing, Spot, spot_of, each_step, steps_in, step_at, own_steps, hook_steps, steps_from, tries_below, plan_steps, job_hooks, job_steps, all_steps}
use Rattle.ccr_pipeline.specs.Reading.{faults_before, pipeline_faults, IsTextOf}
use Rattle.ccr_pipeline.specs.Schema.{Row, has_row, has_key, schema_of}
use Rattle.ccr_pipeline.specs.StepRules.{undone_faults, depth_faults, shape_faults, opening_faults}
use Rattle.ccr_pipeline.specs.Timeouts.{timeout_by, timeout_spot, timeouts_in}
use Rattle.ccr_pipeline.specs.Unused.{unused_spot, unused_in, unused_object}
use Rattle.ccr_pipeline.specs.Used.{kept, kept_of_steps, kept_of_starting, used, used_items, used_pipeline, bare_pipeline}
use Rattle.ccr_pipeline.proofs.Ascending.{Ascends, AllAscend, at_ascends, list_ascends, read_ascends}
use Rattle.ccr_pipeline.proofs.Inside.{EachItem, OwnSteps, Hooks}
use Rattle.ccr_pipeline.proofs.Joined.{both_nil, none_of}
use Rattle.ccr_pipeline.proofs.Ordered.{held, having, one_kind}
use Rattle.ccr_pipeline.proofs.Rows.{nil_left, nil_right}
use Rattle.ccr_pipeline.proofs.Shallow.{no_level}
use Rattle.ccr_pipeline.proofs.Unfaulted.{Unfaulted, Opened, opened, Planned, planned}
use Rattle.ccr_pipeline.proofs.Used.{jobs_used}
use Rattle.ccr_pipeline.proofs.UsedKeys.{step_object, steps_used, parallel_used, list_used}
use Rattle.ccr_pipeline.proofs.UsedMeaning.{plan_used}
use Rattle.ccr_pipeline.proofs.UsedOwn.{IsOther, left_below, OthersLack, object_told}
use Rattle.ccr_pipeline.proofs.UsedSteps.{of_step, do_used, in_parallel_used, try_used, parallel_steps, Hooked, step_hooked, job_hooked, schema_same}

-- what stands at the keys that stay in a step

-- where nothing else is broken, a key that isn't done here isn't there
not_there : (p : Path) (whole : Data) (o : Option Data) → or_else o [] (λ found. value_faults 3 kind.Undone p whole found ++ []) ≡ [] → o ≡ None
unfolding value_faults broken
not_there p whole None e = refl
not_there p whole (Some d) e = absurd (cc (e))

abbrev schema_by : Bool → Bool → Bool → Bool → Bool → Schema
schema_by g p t c f =
    if g then schema.Get else (if p then schema.Put else (if not t then schema.Holder else (if not c && f then schema.FileTask else schema.Task)))

no_get : (g p t c f : Bool) → has_key (schema_by g p t c f) (codes "get") ≡ false → g ≡ false
no_get true p t c f e = absurd (cc (e))
no_get false p t c f e = refl

no_put : (g p t c f : Bool) (n : ℕ) → having g p t n < 2 → has_key (schema_by g p t c f) (codes "put") ≡ false → p ≡ false
no_put true true t c f n few e = absurd (omega (arith, few))
no_put true false t c f n few e = refl
no_put false true t c f n few e = absurd (cc (e))
no_put false false t c f n few e = refl

no_task : (g p t c f : Bool) (n : ℕ) → having g p t n < 2 → has_key (schema_by g p t c f) (codes "task") ≡ false → t ≡ false
no_task g p false c f n few e = refl
no_task true p true c f n few e = absurd (omega (arith, few))
no_task false true true c f n few e = absurd (omega (arith, few))
no_task false false true true f n few e = absurd (cc (e))
no_task false false true false true n few e = absurd (cc (e))
no_task false false true false false n few e = absurd (cc (e))

no_holder : (k : List ℕ) (g p t c f : Bool) (n : ℕ) → having g p t n < 2 → has_key schema.Holder k ≡ true → has_key (schema_by g p t c f) k ≡ false → n ≡ 0
no_holder k true p t c f n few is e = omega (arith, few)
no_holder k false true t c f n few is e = omega (arith, few)
no_holder k false false true c f n few is e = omega (arith, few)
no_holder k false false false c f n few is e = absurd (cc (is, e))

no_one : (x y z : Option Data) → held x y z ≡ 0 → (x ≡ None) × (y ≡ None) × (z ≡ None)
no_one None None None e = (refl, refl, refl)
no_one None None (Some d) e = absurd (omega (arith, e))
no_one None (Some d) z e = absurd (omega (arith, e))
no_one (Some d) y z e = absurd (omega (arith, e))

-- a row's key stands in the step, or isn't there
abbrev Kept : Data → List ℕ → Type 0
Kept d k = has_key (schema_of d) k ≡ false → at_key k d ≡ None

kept_case : (d : Data) (l k : List ℕ) (b rest : Bool) → bytes_eq l k ≡ b → (b || rest) ≡ true → Kept d l → (rest ≡ true → Kept d k) → Kept d k
kept_case d l k true rest e there h g = subst (Kept d) ((bytes_eq-Decides l k).0 e) h
kept_case d l k false rest e there h g = g there

abbrev AllKept : Data → List Row → Type 0
AllKept d [] = Unit {0}
AllKept d (r ∷ rs) = Kept d r.2 × AllKept d rs

kept_row : (d : Data) (rs : List Row) → AllKept d rs → (k : List ℕ) → has_row rs k ≡ true → Kept d k
kept_row d [] h k there = absurd (cc (there))
kept_row d (r ∷ rs) h k there =
    kept_case d r.2 k (bytes_eq r.2 k) (has_row rs k) refl there h.0 (λ more. kept_row d rs h.1 k more)

-- what a step without a fault before its steps says of the keys that stay
record Stays (d : Data) : Type 0 where
  get : Kept d (codes "get")
  put : Kept d (codes "put")
  task : Kept d (codes "task")
  order : Kept d (codes "do")
  parallel : Kept d (codes "in_parallel")
  trying : Kept d (codes "try")

stays : (names : List (List ℕ)) (p : Path) (n : ℕ) (d : Data) → opening_faults names p n d ≡ [] → Stays d
stays names p n d e =
    let few = one_kind names p n d e in
    let x : Option Data = at_key (codes "do") d in
    let y : Option Data = at_key (codes "in_parallel") d in
    let z : Option Data = at_key (codes "try") d in
    let g = is_some (at_key (codes "get") d) in
    let u = is_some (at_key (codes "put") d) in
    let t = is_some (at_key (codes "task") d) in
    let c = is_some (at_key (codes "config") d) in
    let f = is_some (at_key (codes "file") d) in
    record {
      get = λ no. none_of (at_key (codes "get") d) (no_get g u t c f no);
      put = λ no. none_of (at_key (codes "put") d) (no_put g u t c f (held x y z) few no);
      task = λ no. none_of (at_key (codes "task") d) (no_task g u t c f (held x y z) few no);
      order = λ no. (no_one x y z (no_holder (codes "do") g u t c f (held x y z) few refl no)).0;
      parallel = λ no. (no_one x y z (no_holder (codes "in_parallel") g u t c f (held x y z) few refl no)).1;
      trying = λ no. (no_one x y z (no_holder (codes "try") g u t c f (held x y z) few refl no)).2;
    }

undone : (names : List (List ℕ)) (ks : List (List ℕ)) (p : Path) (d : Data) → key_faults (value_faults 3) names (map (λ k. (May, kind.Undone, k)) ks) p d ≡ [] → AllKept d (map (λ k. (May, kind.Undone, k)) ks)
undone names [] p d e = tt
undone names (k ∷ ks) p d e = (
  λ lacks. not_there (path_below p k) d (at_key k d) (nil_left (row_faults (value_faults 3) names (May, kind.Undone, k) p d) _ e),
  undone (names ++ row_names (May, kind.Undone, k) d) ks p d (nil_right (row_faults (value_faults 3) names (May, kind.Undone, k) p d) _ e),
)

all_stay : (names : List (List ℕ)) (p : Path) (n : ℕ) (d : Data) → opening_faults names p n d ≡ [] → AllKept d kept_of_steps
unfolding opening_faults shape_faults
all_stay names p n d e =
    let s = stays names p n d e in
    let shape : shape_faults p n d ≡ [] = nil_left (shape_faults p n d) _ e in
    let rest = undone [] (codes "across" ∷ codes "set_pipeline" ∷ codes "load_var" ∷ codes "aggregate" ∷ []) p d (nil_right (depth_faults p n) _ (nil_right _ (depth_faults p n ++ undone_faults p d) shape)) in
    (s.get, (s.put, (s.task, (s.order, (s.parallel, (s.trying, rest))))))

-- the timeout aside, the same keys stay in a step that starts programs
starting_same : (timed : Bool) (k : List ℕ) → IsOther k → has_row (kept_of_starting timed) k ≡ has_row kept_of_steps k
starting_same true k other = rw other refl
starting_same false k other = refl

-- what is left of the timeout of the visited step
abbrev left_by : Bool → Part → Path → Data → List Path
left_by timed Opening p d = left_below timed (schema_of d) p d
left_by timed Closing p d = []

abbrev left_spot : Bool → Spot → List Path
left_spot timed x = left_by timed x.part x.path x.step

by_part : (x : Part) (p : Path) (d : Data) → left_by true x p d ≡ timeout_by x p d
by_part Opening p d = refl
by_part Closing p d = refl

all_left : (xs : List Spot) → flat_map (left_spot true) xs ≡ flat_map timeout_spot xs
all_left [] = refl
all_left (x ∷ xs) = ap₂ (λ ps qs. ps ++ qs) (by_part x.part x.path x.step) (all_left xs)

none_by_part : (x : Part) (p : Path) (d : Data) → left_by false x p d ≡ []
none_by_part Opening p d = refl
none_by_part Closing p d = refl

none_of_all : (xs : List Spot) → flat_map (left_spot false) xs ≡ []
none_of_all [] = refl
none_of_all (x ∷ xs) = both_nil _ _ (none_by_part x.part x.path x.step) (none_of_all xs)

module _ (timed : Bool) where
  kept_same : (k : List ℕ) → IsOther k → (d : Data) → has_row (kept timed (schema_of d)) k ≡ has_row kept_of_steps k
  kept_same k other =
      let own : has_row (kept_of_starting timed) k ≡ has_row kept_of_steps k = starting_same timed k other in
      of_step (λ s. has_row (kept timed s) k ≡ has_row kept_of_steps k) (record { get = own; put = own; holder = refl; file = own; task = own })

  step_keys : (names : List (List ℕ)) (p : Path) (n : ℕ) (d : Data) → opening_faults names p n d ≡ [] → OthersLack timed (schema_of d) d
  step_keys names p n d e k other there =
      kept_row d kept_of_steps (all_stay names p n d e) k (sym (kept_same k other d) ∙ there)

  -- no key of the first steps is unused but the timeouts that are left of the others
  record AllUsed (xs ys : List Spot) : Type 0 where
    told : flat_map unused_spot xs ≡ flat_map (left_spot timed) ys

  join : (xs ys us vs : List Spot) → AllUsed xs us → AllUsed ys vs → AllUsed (xs ++ ys) (us ++ vs)
  join xs ys us vs e f = record {
    told =
        flat_map-append unused_spot xs ys
        ∙ (ap₂ (λ ps qs. ps ++ qs) e.told f.told ∙ sym (flat_map-append (left_spot timed) us vs));
  }

  -- so of a step with so many levels left
  abbrev Down : ℕ → ℕ → Type 0
  Down m u = (d : Data) → Unfaulted m u d → Ascends d → (t v : ℕ) (p : Path) → AllUsed (steps_from m t p (used timed kind.Step d)) (steps_from m v p d)

  module _ (m u : ℕ) (down : Down m u) (t v : ℕ) where
    each : (p : Path) (i : ℕ) (ds : Items) → EachItem (Unfaulted m u) ds → AllAscend ds → AllUsed (each_step (steps_from m) t p i (used_items timed kind.Step ds)) (each_step (steps_from m) v p i ds)
    each p i no_items h a = record { told = refl }
    each p i (item d ds) h a = join _ _ _ _ (down d h.0 a.0 t v (path_at p i)) (each p (i + 1) ds h.1 a.1)

    at_list : (p : Path) (k : List ℕ) (e d : Data) → list_at k e ≡ used_items timed kind.Step (list_at k d) → EachItem (Unfaulted m u) (list_at k d) → Ascends d → AllUsed (steps_in (steps_from m) t p k e) (steps_in (steps_from m) v p k d)
    unfolding steps_in
    at_list p k e d is h a = rw is (each (path_below p k) 0 (list_at k d) h (list_ascends k d a))

    at_found : (p : Path) (o : Option Data) → IfSome o (Unfaulted m u) → IfSome o Ascends → AllUsed (or_else (option_map (used timed kind.Step) o) [] (steps_from m t p)) (or_else o [] (steps_from m v p))
    at_found p None h a = record { told = refl }
    at_found p (Some d) h a = down d h a t v p

    at_step : (p : Path) (k : List ℕ) (e d : Data) → at_key k e ≡ option_map (used timed kind.Step) (at_key k d) → IfSome (at_key k d) (Unfaulted m u) → Ascends d → AllUsed (step_at (steps_from m) t p k e) (step_at (steps_from m) v p k d)
    unfolding step_at
    at_step p k e d is h a = rw is (at_found (path_below p k) (at_key k d) h (at_ascends k d a))

    in_parallel : (p : Path) (o : Option Data) → IfSome o (λ found. EachItem (Unfaulted m u) (list_at (codes "steps") found)) → IfSome o Ascends → AllUsed (or_else (option_map (used timed kind.Parallel) o) [] (steps_in (steps_from m) t p (codes "steps"))) (or_else o [] (steps_in (steps_from m) v p (codes "steps")))
    in_parallel p None h a = record { told = refl }
    in_parallel p (Some found) h a = at_list p (codes "steps") (used timed kind.Parallel found) found (parallel_steps timed found) h a

    hooks_used : (p : Path) (e d : Data) → Hooked timed e d → Hooks (Unfaulted m u) d → Ascends d → AllUsed (hook_steps (steps_from m) t p e) (hook_steps (steps_from m) v p d)
    unfolding hook_steps
    hooks_used p e d is h a =
        join _ _ _ _ (at_step p (codes "on_success") e d (is OnSuccess) h.on_success a)
        (join _ _ _ _ (at_step p (codes "on_failure") e d (is OnFailure) h.on_failure a)
        (join _ _ _ _ (at_step p (codes "on_error") e d (is OnError) h.on_error a)
        (join _ _ _ _ (at_step p (codes "on_abort") e d (is OnAbort) h.on_abort a)
        (at_step p (codes "ensure") e d (is Ensure) h.ensure a))))

    own_used : (p : Path) (d : Data) → OwnSteps (Unfaulted m u) d → Ascends d → AllUsed (own_steps (steps_from m) t p (used timed kind.Step d)) (own_steps (steps_from m) v p d)
    unfolding own_steps
    own_used p d h a =
        let e : Data = used timed kind.Step d in
        join _ _ _ _ (at_list p (codes "do") e d (ap (λ o. or_else o no_items items_in) (do_used timed d) ∙ list_used timed kind.Steps _ (steps_used timed) (at_key (codes "do") d)) h.order a)
        (join _ _ _ _ (at_list p (codes "in_parallel") e d (ap (λ o. or_else o no_items items_in) (in_parallel_used timed d) ∙ list_used timed kind.Parallel _ (parallel_used timed) (at_key (codes "in_parallel") d)) h.parallel a)
        (join _ _ _ _ (rw (in_parallel_used timed d) (in_parallel (path_below p (codes "in_parallel")) (at_key (codes "in_parallel") d) h.steps (at_ascends (codes "in_parallel") d a)))
        (at_step p (codes "try") e d (try_used timed d) h.trying a)))

  step_used : (m u : ℕ) → Down m u
  unfolding steps_from
  step_used zero u d h a t v p = absurd (no_level h.1.0 h.0 d (nil_left _ _ h.1.1))
  step_used (suc m) u d h a t v p =
      let o : Opened m u d = opened m u d h in
      let b : ℕ = tries_below u d in
      let e : Data = used timed kind.Step d in
      let w : ℕ = tries_below t e in
      let x : ℕ = tries_below v d in
      let own : unused_object 3 (schema_of e) p e ≡ left_below timed (schema_of d) p d =
      rw (schema_same timed d, step_object timed d) (object_told timed 2 (schema_of d) p d a (step_keys o.names o.path (suc m) d o.opening)) in
      let hooks : AllUsed (hook_steps (steps_from m) w p e) (hook_steps (steps_from m) x p d) = hooks_used m b (step_used m b) w x p e d (step_hooked timed d) o.hooks a in
      let after : AllUsed (spot_of Closing p (suc m) t e ∷ hook_steps (steps_from m) w p e) (spot_of Closing p (suc m) v d ∷ hook_steps (steps_from m) x p d) = record { told = hooks.told } in
      let inner : AllUsed (own_steps (steps_from m) w p e) (own_steps (steps_from m) x p d) = own_used m b (step_used m b) w x p d o.own a in
      record { told = ap₂ (λ ps qs. ps ++ qs) own (join _ _ _ _ inner after).told }

  -- a job, and the whole pipeline

  job_used : (p : Path) (d : Data) → Planned d → Ascends d → AllUsed (plan_steps p (used timed (kind.Object schema.Job) d) ++ job_hooks p (used timed (kind.Object schema.Job) d)) (plan_steps p d ++ job_hooks p d)
  job_used p d h a =
      join _ _ _ _ (at_list 30 1 (step_used 30 1) 1 1 p (codes "plan") (used timed (kind.Object schema.Job) d) d (plan_used timed d) h.steps a)
      (hooks_used 30 1 (step_used 30 1) 1 1 p (used timed (kind.Object schema.Job) d) d (job_hooked timed d) h.hooks a)

  all_used : (names : List (List ℕ)) (i : ℕ) (ds : Items) → members job_faults names (codes "jobs") i ds ≡ [] → AllAscend ds → AllUsed (job_steps i (used_items timed (kind.Object schema.Job) ds)) (job_steps i ds)
  all_used names i no_items e a = record { told = refl }
  all_used names i (item d ds) e a =
      let p : Path = path_at (codes "jobs") i in
      let own : job_faults names p d ≡ [] = nil_left (job_faults names p d) _ e in
      let plan : Planned d = planned p d (nil_right (object_faults (value_faults 3) names schema.Job p d) _ own) in
      join _ _ _ _ (job_used p d plan a.0) (all_used (names ++ names_at (codes "name") d) (i + 1) ds (nil_right (job_faults names p d) _ e) a.1)

timeouts_left : (d : Data) → Ascends d → pipeline_faults d ≡ [] → unused_in (used_pipeline d) ≡ timeouts_in d
unfolding pipeline_faults unused_in timeouts_in
timeouts_left d a e =
    let jobs : members job_faults [] (codes "jobs") 0 (list_at (codes "jobs") d) ≡ [] = nil_left _ _ (nil_right (faults_before d) _ e) in
    ap₂ (λ us vs. us ++ vs)
    (object_told true 2 schema.Pipeline [] d a (λ k other there no. absurd (cc (there))))
    (rw (jobs_used true d)
    ((all_used true [] 0 (list_at (codes "jobs") d) jobs (list_ascends (codes "jobs") d a)).told ∙ all_left (all_steps d)))

none_left : (d : Data) → Ascends d → pipeline_faults d ≡ [] → unused_in (bare_pipeline d) ≡ []
unfolding pipeline_faults unused_in
none_left d a e =
    let jobs : members job_faults [] (codes "jobs") 0 (list_at (codes "jobs") d) ≡ [] = nil_left _ _ (nil_right (faults_before d) _ e) in
    ap₂ (λ us vs. us ++ vs)
    (object_told false 2 schema.Pipeline [] d a (λ k other there no. absurd (cc (there))))
    (rw (jobs_used false d)
    ((all_used false [] 0 (list_at (codes "jobs") d) jobs (list_ascends (codes "jobs") d a)).told ∙ none_of_all (all_steps d)))

-- bytes are the text of one value, whose keys ascend
of_text : {T : Type 0} (Left : Data → Type 0) → ((d : Data) → Ascends d → pipeline_faults d ≡ [] → Left d) → (bytes : List ℕ) (d : Data) (r : Result T ReadFault) → IsTextOf bytes d → Checks (pipeline_faults d) r → IfOk r (λ t. (e : Data) → IsTextOf bytes e → Left e)
of_text Left left bytes d (Ok t) one h = λ e two.
    let same : d ≡ e = cc (one.2, two.2) in
    subst Left same (left d (read_ascends bytes d one.2) h)
of_text Left left bytes d (Err f) one h = tt

pub read_leaves_timeouts : {T : Type 0} (bytes : List ℕ) (d : Data) (r : Result T ReadFault) → IsTextOf bytes d → Checks (pipeline_faults d) r → IfOk r (λ t. (e : Data) → IsTextOf bytes e → unused_in (used_pipeline e) ≡ timeouts_in e)
read_leaves_timeouts = of_text (λ d. unused_in (used_pipeline d) ≡ timeouts_in d) timeouts_left

pub read_leaves_none : {T : Type 0} (bytes : List ℕ) (d : Data) (r : Result T ReadFault) → IsTextOf bytes d → Checks (pipeline_faults d) r → IfOk r (λ t. (e : Data) → IsTextOf bytes e → unused_in (bare_pipeline e) ≡ [])
read_leaves_none = of_text (λ d. unused_in (bare_pipeline d) ≡ []) none_left
