-- The visits of a step without its unused keys.
use Rattle.std.proofs.Common.{◌≡◌, ℕ, zero, suc, ◌+◌, List, [], ◌∷◌, ◌++◌, Bool, true, false, Option, Some, None, refl, ap, ap₂, ◌∙◌, is_some, codes, if◌then◌else◌, option_map}
use Rattle.std.specs.List.{flat_map}
use Rattle.serde_json.specs.Data.{Data, object, Items, no_items, item}
use Rattle.ccr_pipeline.specs.declared.schema.Kind.TheVariants as kind
use Rattle.ccr_pipeline.specs.declared.schema.Schema.{Schema}
use Rattle.ccr_pipeline.specs.declared.schema.Schema.TheVariants as schema
use Rattle.ccr_pipeline.specs.declared.schema.TheConstants.{NESTED}
use Rattle.ccr_pipeline.specs.declared.step.When.TheVariants.{OnSuccess, OnFailure, OnError, OnAbort, Ensure}
use Rattle.ccr_pipeline.specs.Faults.{Path}
use Rattle.ccr_pipeline.specs.Keys.{at_key, or_else, items_in, list_at, path_below, path_at}
use Rattle.ccr_pipeline.specs.Objects.{key_faults, value_faults}
use Rattle.ccr_pipeline.specs.Places.{Opening, Closing, Spot, spot_of, tries_below, each_step, steps_in, step_at, own_steps, hook_steps, steps_from, gets_at}
use Rattle.ccr_pipeline.specs.Schema.{opening, closing, schema_of}
use Rattle.ccr_pipeline.specs.StepRules.{kinds, own_keys, undone_faults, shape_faults, kind_faults, opening_faults, closing_faults, visit_faults, visits}
use Rattle.ccr_pipeline.specs.Unknown.{unknown_resource, unknown_passed, unknown_by, unknown_spots}
use Rattle.ccr_pipeline.specs.Used.{kind_at, used, used_items}
use Rattle.ccr_pipeline.proofs.UsedKeys.{used_like, is_plain, at_same, step_object, steps_used, parallel_used, list_used}
use Rattle.ccr_pipeline.proofs.UsedValues.{Fits, fits_opening, keys_same}
use Rattle.ccr_pipeline.proofs.UsedSteps.{some_used, of_step, get_same, put_same, task_same, attempts_same, do_used, in_parallel_used, try_used, parallel_steps, Hooked, step_hooked, schema_same}

-- two visits tell the same faults and the same name of a get
pub record Alike (x y : Spot) : Type 0 where
  pub faults : (names : List (List ℕ)) → visit_faults names x ≡ visit_faults names y
  pub gets : gets_at x ≡ gets_at y
  pub unknown : (resources jobs : List (List ℕ)) → unknown_by x.part resources jobs x.path x.step ≡ unknown_by y.part resources jobs y.path y.step

-- each visit of one list is alike to that at its place in the other
abbrev pub AllAlike : List Spot → List Spot → Type 0
AllAlike [] [] = Unit {0}
AllAlike [] (y ∷ ys) = ⊥
AllAlike (x ∷ xs) [] = ⊥
AllAlike (x ∷ xs) (y ∷ ys) = Alike x y × AllAlike xs ys

pub all_same : (xs : List Spot) → AllAlike xs xs
all_same [] = tt
all_same (x ∷ xs) = (record { faults = λ names. refl; gets = refl; unknown = λ resources jobs. refl }, all_same xs)

pub join : (xs ys us vs : List Spot) → AllAlike xs us → AllAlike ys vs → AllAlike (xs ++ ys) (us ++ vs)
join [] ys [] vs h g = g
join [] ys (u ∷ us) vs h g = absurd h
join (x ∷ xs) ys [] vs h g = absurd h
join (x ∷ xs) ys (u ∷ us) vs h g = (h.0, join xs ys us vs h.1 g)

pub visits_same : (names : List (List ℕ)) (xs ys : List Spot) → AllAlike xs ys → visits names xs ≡ visits names ys
visits_same names [] [] h = refl
visits_same names [] (y ∷ ys) h = absurd h
visits_same names (x ∷ xs) [] h = absurd h
visits_same names (x ∷ xs) (y ∷ ys) h =
    ap₂ (λ fs gs. fs ++ gs) (h.0.faults names)
    (ap (λ ns. visits (names ++ ns) xs) h.0.gets ∙ visits_same (names ++ gets_at y) xs ys h.1)

pub gets_alike : (xs ys : List Spot) → AllAlike xs ys → flat_map gets_at xs ≡ flat_map gets_at ys
gets_alike [] [] h = refl
gets_alike [] (y ∷ ys) h = absurd h
gets_alike (x ∷ xs) [] h = absurd h
gets_alike (x ∷ xs) (y ∷ ys) h = ap₂ (λ ns ms. ns ++ ms) h.0.gets (gets_alike xs ys h.1)

pub unknown_alike : (resources jobs : List (List ℕ)) (xs ys : List Spot) → AllAlike xs ys → unknown_spots resources jobs xs ≡ unknown_spots resources jobs ys
unknown_alike resources jobs [] [] h = refl
unknown_alike resources jobs [] (y ∷ ys) h = absurd h
unknown_alike resources jobs (x ∷ xs) [] h = absurd h
unknown_alike resources jobs (x ∷ xs) (y ∷ ys) h =
    ap₂ (λ fs gs. fs ++ gs) (h.0.unknown resources jobs) (unknown_alike resources jobs xs ys h.1)

module _ (timed : Bool) where
  -- what is broken at the visits of a step

  undone_fits : (d : Data) → Fits timed (schema_of d) (opening schema.Undone)
  unfolding kind_at
  undone_fits d =
      of_step (λ s. Fits timed s (opening schema.Undone))
      (record {
        get = (refl, tt, (refl, tt, (refl, tt, (refl, tt, tt))));
        put = (refl, tt, (refl, tt, (refl, tt, (refl, tt, tt))));
        holder = (refl, tt, (refl, tt, (refl, tt, (refl, tt, tt))));
        file = (refl, tt, (refl, tt, (refl, tt, (refl, tt, tt))));
        task = (refl, tt, (refl, tt, (refl, tt, (refl, tt, tt))));
      })
      d

  undone_same : (p : Path) (d : Data) → undone_faults p (used timed kind.Step d) ≡ undone_faults p d
  undone_same p d = rw (step_object timed d) (keys_same timed NESTED (schema_of d) [] (opening schema.Undone) p d (undone_fits d))

  kinds_same : (d : Data) → kinds (used timed kind.Step d) ≡ kinds d
  kinds_same d =
      rw (get_same timed d, put_same timed d, task_same timed d, do_used timed d, in_parallel_used timed d, try_used timed d, some_used timed kind.Steps _, some_used timed kind.Parallel _, some_used timed kind.Step _)
      refl

  own_same : (names : List (List ℕ)) (p : Path) (d : Data) → own_keys names p (used timed kind.Step d) ≡ own_keys names p d
  own_same names p d =
      rw (schema_same timed d, step_object timed d) (keys_same timed NESTED (schema_of d) names (opening (schema_of d)) p d (fits_opening timed (schema_of d)))

  opening_same : (names : List (List ℕ)) (p : Path) (left : ℕ) (d : Data) → opening_faults names p left (used timed kind.Step d) ≡ opening_faults names p left d
  unfolding opening_faults shape_faults kind_faults
  opening_same names p left d = rw ((used_like timed kind.Step d).is_object, undone_same p d, kinds_same d, own_same names p d) refl

  in_parallel : (p : Path) (d : Data) → key_faults (value_faults NESTED) [] (closing schema.Parallel) p (used timed kind.Parallel d) ≡ key_faults (value_faults NESTED) [] (closing schema.Parallel) p d
  unfolding kind_at
  in_parallel p (object ms) = keys_same timed NESTED schema.Parallel [] (closing schema.Parallel) p (object ms) (refl, tt, tt)
  in_parallel p _ = refl

  parallel_found : (p : Path) (o : Option Data) → or_else (option_map (used timed kind.Parallel) o) [] (key_faults (value_faults NESTED) [] (closing schema.Parallel) p) ≡ or_else o [] (key_faults (value_faults NESTED) [] (closing schema.Parallel) p)
  parallel_found p None = refl
  parallel_found p (Some d) = in_parallel p d

  closing_same : (p : Path) (tries : ℕ) (d : Data) → closing_faults p tries (used timed kind.Step d) ≡ closing_faults p tries d
  unfolding closing_faults
  closing_same p tries d =
      rw (in_parallel_used timed d, parallel_found (path_below p (codes "in_parallel")) (at_key (codes "in_parallel") d), attempts_same timed d) refl

  -- what a step names that isn't there

  named_same : (s : Schema) (d : Data) (a b : Bool) → is_plain (kind_at timed s (codes "resource")) ≡ true → is_plain (kind_at timed s (codes "get")) ≡ true → is_plain (kind_at timed s (codes "put")) ≡ true → at_key (if a then codes "resource" else (if b then codes "get" else codes "put")) (used timed (kind.Object s) d) ≡ at_key (if a then codes "resource" else (if b then codes "get" else codes "put")) d
  named_same s d true b e f g = at_same timed s (codes "resource") d e
  named_same s d false true e f g = at_same timed s (codes "get") d f
  named_same s d false false e f g = at_same timed s (codes "put") d g

  resource_by : (resources : List (List ℕ)) (s : Schema) (p : Path) (d : Data) → is_plain (kind_at timed s (codes "resource")) ≡ true → is_plain (kind_at timed s (codes "get")) ≡ true → is_plain (kind_at timed s (codes "put")) ≡ true → unknown_resource resources p (used timed (kind.Object s) d) ≡ unknown_resource resources p d
  unfolding unknown_resource
  resource_by resources s p d e f g =
      rw (at_same timed s (codes "resource") d e, at_same timed s (codes "get") d f, at_same timed s (codes "put") d g, named_same s d (is_some (at_key (codes "resource") d)) (is_some (at_key (codes "get") d)) e f g)
      refl

  no_resource : (resources : List (List ℕ)) (p : Path) (d : Data) → is_some (at_key (codes "get") d) ≡ false → is_some (at_key (codes "put") d) ≡ false → unknown_resource resources p (used timed kind.Step d) ≡ unknown_resource resources p d
  unfolding unknown_resource
  no_resource resources p d g f = rw (get_same timed d, put_same timed d, g, f) refl

  resource_same : (resources : List (List ℕ)) (p : Path) (d : Data) (get put : Bool) → is_some (at_key (codes "get") d) ≡ get → is_some (at_key (codes "put") d) ≡ put → unknown_resource resources p (used timed kind.Step d) ≡ unknown_resource resources p d
  unfolding kind_at
  resource_same resources p d true put g f = rw (step_object timed d, g) (resource_by resources schema.Get p d refl refl refl)
  resource_same resources p d false true g f = rw (step_object timed d, g, f) (resource_by resources schema.Put p d refl refl refl)
  resource_same resources p d false false g f = no_resource resources p d g f

  passed_same : (jobs : List (List ℕ)) (p : Path) (d : Data) (get : Bool) → is_some (at_key (codes "get") d) ≡ get → unknown_passed jobs p (used timed kind.Step d) ≡ unknown_passed jobs p d
  unfolding kind_at unknown_passed
  passed_same jobs p d true g =
      rw (g, step_object timed d, g, at_same timed schema.Get (codes "get") d refl, g, at_same timed schema.Get (codes "passed") d refl) refl
  passed_same jobs p d false g = rw (get_same timed d, g) refl

  opening_alike : (p : Path) (left tries : ℕ) (d : Data) → Alike (spot_of Opening p left tries (used timed kind.Step d)) (spot_of Opening p left tries d)
  opening_alike p left tries d = record {
    faults = λ names. opening_same names p left d;
    gets = rw (get_same timed d) refl;
    unknown = λ resources jobs. ap₂ (λ fs gs. fs ++ gs) (resource_same resources p d _ _ refl refl) (passed_same jobs p d _ refl);
  }

  closing_alike : (p : Path) (left tries : ℕ) (d : Data) → Alike (spot_of Closing p left tries (used timed kind.Step d)) (spot_of Closing p left tries d)
  closing_alike p left tries d = record {
    faults = λ names. closing_same p tries d;
    gets = refl;
    unknown = λ resources jobs. refl;
  }

  -- the visits of the steps in a step

  module _ (rec : ℕ → Path → Data → List Spot) (alike : (t : ℕ) (p : Path) (d : Data) → AllAlike (rec t p (used timed kind.Step d)) (rec t p d)) (t : ℕ) where
    each_alike : (p : Path) (i : ℕ) (ds : Items) → AllAlike (each_step rec t p i (used_items timed kind.Step ds)) (each_step rec t p i ds)
    each_alike p i no_items = tt
    each_alike p i (item d ds) = join _ _ _ _ (alike t (path_at p i) d) (each_alike p (i + 1) ds)

    pub list_alike : (p : Path) (k : List ℕ) (e d : Data) → list_at k e ≡ used_items timed kind.Step (list_at k d) → AllAlike (steps_in rec t p k e) (steps_in rec t p k d)
    unfolding steps_in
    list_alike p k e d l = rw l (each_alike (path_below p k) 0 (list_at k d))

    found_alike : (p : Path) (o : Option Data) → AllAlike (or_else (option_map (used timed kind.Step) o) [] (rec t p)) (or_else o [] (rec t p))
    found_alike p None = tt
    found_alike p (Some d) = alike t p d

    step_alike : (p : Path) (k : List ℕ) (e d : Data) → at_key k e ≡ option_map (used timed kind.Step) (at_key k d) → AllAlike (step_at rec t p k e) (step_at rec t p k d)
    unfolding step_at
    step_alike p k e d h = rw h (found_alike (path_below p k) (at_key k d))

    pub hooks_alike : (p : Path) (e d : Data) → Hooked timed e d → AllAlike (hook_steps rec t p e) (hook_steps rec t p d)
    unfolding hook_steps
    hooks_alike p e d h =
        join _ _ _ _ (step_alike p (codes "on_success") e d (h OnSuccess)) (join _ _ _ _ (step_alike p (codes "on_failure") e d (h OnFailure))
        (join _ _ _ _ (step_alike p (codes "on_error") e d (h OnError)) (join _ _ _ _ (step_alike p (codes "on_abort") e d (h OnAbort))
        (step_alike p (codes "ensure") e d (h Ensure)))))

    in_parallel_alike : (p : Path) (o : Option Data) → AllAlike (or_else (option_map (used timed kind.Parallel) o) [] (steps_in rec t p (codes "steps"))) (or_else o [] (steps_in rec t p (codes "steps")))
    in_parallel_alike p None = tt
    in_parallel_alike p (Some d) = list_alike p (codes "steps") (used timed kind.Parallel d) d (parallel_steps timed d)

    own_alike : (p : Path) (d : Data) → AllAlike (own_steps rec t p (used timed kind.Step d)) (own_steps rec t p d)
    unfolding own_steps
    own_alike p d =
        let e : Data = used timed kind.Step d in
        join _ _ _ _ (list_alike p (codes "do") e d (ap (λ o. or_else o no_items items_in) (do_used timed d) ∙ list_used timed kind.Steps _ (steps_used timed) (at_key (codes "do") d)))
        (join _ _ _ _ (list_alike p (codes "in_parallel") e d (ap (λ o. or_else o no_items items_in) (in_parallel_used timed d) ∙ list_used timed kind.Parallel _ (parallel_used timed) (at_key (codes "in_parallel") d)))
        (join _ _ _ _ (rw (in_parallel_used timed d) (in_parallel_alike (path_below p (codes "in_parallel")) (at_key (codes "in_parallel") d)))
        (step_alike p (codes "try") e d (try_used timed d))))

  pub steps_alike : (m t : ℕ) (p : Path) (d : Data) → AllAlike (steps_from m t p (used timed kind.Step d)) (steps_from m t p d)
  unfolding steps_from
  steps_alike zero t p d = (opening_alike p 0 t d, tt)
  steps_alike (suc m) t p d = (
    opening_alike p (suc m) t d,
    rw (attempts_same timed d)
        (join (own_steps (steps_from m) (tries_below t d) p (used timed kind.Step d)) _ (own_steps (steps_from m) (tries_below t d) p d) _
        (own_alike (steps_from m) (steps_alike m) (tries_below t d) p d)
        (closing_alike p (suc m) t d, hooks_alike (steps_from m) (steps_alike m) (tries_below t d) p (used timed kind.Step d) d (step_hooked timed d))),
  )
