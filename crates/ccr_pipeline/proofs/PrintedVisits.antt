-- Where no fault is present in a job, none is in the steps of what is printed of it.
use Rattle.std.proofs.Common.{◌≡◌, ℕ, zero, suc, ◌+◌, ◌*◌, ◌<◌, List, [], ◌∷◌, ◌++◌, ◌&&◌, nat_le, nat_lt, Bool, true, false, Option, Some, None, refl, sym, subst, ap, ◌∙◌, arith, option_map, option_and_then, is_some, codes, min, if◌then◌else◌}
use Rattle.std.proofs.lemmas.Grind.{flat_map-append}
use Rattle.std.specs.List.{flat_map}
use Rattle.serde_json.specs.Data.{unsigned, Data, null, boolean, number, string, array, object, Items, no_items, item}
use Rattle.serde_json.specs.Find.{as_str, as_number, as_u64, as_object}
use Rattle.ccr_pipeline.specs.declared.check_step.TheConstants.{MOST_ATTEMPTS, MOST_TRIES}
use Rattle.ccr_pipeline.specs.declared.fault.Rule.{Rule}
use Rattle.ccr_pipeline.specs.declared.fault.Rule.TheVariants as rule
use Rattle.ccr_pipeline.specs.declared.schema.Kind.TheVariants as kind
use Rattle.ccr_pipeline.specs.declared.step.When.{When}
use Rattle.ccr_pipeline.specs.declared.step.When.TheVariants.{OnSuccess, OnFailure, OnError, OnAbort, Ensure}
use Rattle.ccr_pipeline.specs.declared.walk.TheConstants.{LEVELS}
use Rattle.ccr_pipeline.specs.Faults.{Path, Faults, unless}
use Rattle.ccr_pipeline.specs.Tree.{hook_key, Text, GetData, PutData, SourceData, config, file, TaskData, Tree, Trees, get, put, task, in_order, in_parallel, tried, attempts, hook, no_trees, trees_of}
use Rattle.ccr_pipeline.specs.Keys.{at_key, or_else, unless_null, items_in, list_at, path_below, path_at}
use Rattle.ccr_pipeline.specs.Meaning.{get_from, put_from, task_from}
use Rattle.ccr_pipeline.specs.Names.{names_at}
use Rattle.ccr_pipeline.specs.Objects.{broken, object_faults, value_faults}
use Rattle.ccr_pipeline.specs.Pipelines.{job_from}
use Rattle.ccr_pipeline.specs.Places.{Opening, Closing, Spot, spot_of, gets_at, tries_below, each_step, steps_in, step_at, own_steps, hook_steps, plan_steps, job_hooks, steps_from}
use Rattle.ccr_pipeline.specs.Printed.{Around, alone, get_value, put_value, task_value, printed, printed_each, job_value}
use Rattle.ccr_pipeline.specs.StepRules.{own_keys, depth_faults, undone_faults, shape_faults, kind_faults, opening_faults, no_count, parallel_rest, closing_faults, visits}
use Rattle.ccr_pipeline.specs.Steps.{each_tree, parallel_items, holder, action, step_tree}
use Rattle.ccr_pipeline.specs.Unknown.{unknown_resource, unknown_passed, unknown_names, unknown_spots}
use Rattle.ccr_pipeline.proofs.Joined.{both_nil}
use Rattle.ccr_pipeline.proofs.Kept.{of_kind, holder_of}
use Rattle.ccr_pipeline.proofs.Named.{opened_own}
use Rattle.ccr_pipeline.proofs.NoteLemmas.{unknown_append}
use Rattle.ccr_pipeline.proofs.Ordered.{held, having, one_kind}
use Rattle.ccr_pipeline.proofs.PrintedLeaves.{get_quiet, get_named, put_quiet, task_quiet, get_known, put_known}
use Rattle.ccr_pipeline.proofs.PrintedTrees.{count_of, hook_from, around_of, IsAction, action_is, printed_step, not_null, at_hook, at_attempts, job_hook, job_plan}
use Rattle.ccr_pipeline.proofs.Rows.{nil_left, nil_right, passes}
use Rattle.ccr_pipeline.proofs.Shallow.{no_level}
use Rattle.ccr_pipeline.proofs.Visits.{visits-append}

-- visits break no rule, name only what is there and get these names
pub record Fine (resources jobs names : List Text) (xs : List Spot) (gets : List Text) : Type 0 where
  pub faults : visits names xs ≡ []
  pub known : unknown_spots resources jobs xs ≡ []
  pub same : flat_map gets_at xs ≡ gets

-- the first visits are fine where the others break no rule and name only what is there, and get the same names
abbrev pub Follows : List Spot → List Spot → Type 0
Follows xs ys =
    (resources jobs names : List Text) → visits names ys ≡ [] → unknown_spots resources jobs ys ≡ []
    → Fine resources jobs names xs (flat_map gets_at ys)

-- the same, as a record
record Leads (xs ys : List Spot) : Type 0 where
  follows : Follows xs ys

-- one walk after another

no_visit : Leads [] []
no_visit = record { follows = λ resources jobs names e known. record { faults = refl; known = refl; same = refl } }

join : (xs ys us vs : List Spot) → Leads xs us → Leads ys vs → Leads (xs ++ ys) (us ++ vs)
join xs ys us vs f g = record {
  follows = λ resources jobs names e known.
      let faults : visits names us ++ visits (names ++ flat_map gets_at us) vs ≡ [] = rw (visits-append names us vs) at e in
      let unknown : unknown_spots resources jobs us ++ unknown_spots resources jobs vs ≡ [] = rw (unknown_append resources jobs us vs) at known in
      let one : Fine resources jobs names xs (flat_map gets_at us) = f.follows resources jobs names (nil_left (visits names us) _ faults) (nil_left (unknown_spots resources jobs us) _ unknown) in
      let two : Fine resources jobs (names ++ flat_map gets_at us) ys (flat_map gets_at vs) = g.follows resources jobs (names ++ flat_map gets_at us) (nil_right (visits names us) _ faults) (nil_right (unknown_spots resources jobs us) _ unknown) in
      record {
        faults = rw (visits-append names xs ys, one.faults, one.same) two.faults;
        known = rw (unknown_append resources jobs xs ys, one.known) two.known;
        same = rw (flat_map-append gets_at xs ys, flat_map-append gets_at us vs, one.same, two.same) refl;
      };
}

-- what is printed of a step is an object that says one kind

elsewhere : (b : Bool) (r s : Rule) (p q : Path) → unless b r p ≡ [] → unless b s q ≡ []
elsewhere b r s p q e = rw (passes b r p e) refl

record Sound (q : Path) (e : Data) : Type 0 where
  is_object : is_some (as_object e) ≡ true
  undone : undone_faults q e ≡ []
  kind : kind_faults q e ≡ []
  rest : parallel_rest q e ≡ []

task_sound : (a : Around) (q : Path) (name : Text) (s : SourceData) (params : List (Text × Text)) (limit : Option Text) → Sound q (task_value a (record { name = name; source = s; params = params; timeout = limit }))
unfolding kind_faults
task_sound a q name (config c) params limit = record { is_object = refl; undone = refl; kind = refl; rest = refl }
task_sound a q name (file path) params limit = record { is_object = refl; undone = refl; kind = refl; rest = refl }

sound : (a : Around) (q : Path) (t : Tree) → IsAction t → Sound q (printed a t)
unfolding kind_faults value_faults broken
sound a q (get g) is = record { is_object = refl; undone = refl; kind = refl; rest = refl }
sound a q (put p) is = record { is_object = refl; undone = refl; kind = refl; rest = refl }
sound a q (task t) is = task_sound a q t.name t.source t.params t.timeout
sound a q (in_order ts) is = record { is_object = refl; undone = refl; kind = refl; rest = refl }
sound a q (in_parallel ts fast) is = record { is_object = refl; undone = refl; kind = refl; rest = refl }
sound a q (tried t) is = record { is_object = refl; undone = refl; kind = rw (not_null alone t) refl; rest = refl }
sound a q (attempts n t) is = absurd is
sound a q (hook w t h) is = absurd is

-- the keys before the steps that it holds

-- what its first visit tells, where that of a step tells nothing
record Opens (resources jobs names : List Text) (q : Path) (d e : Data) : Type 0 where
  own : own_keys names q e ≡ []
  known : unknown_names resources jobs q e ≡ []
  same : names_at (codes "get") e ≡ names_at (codes "get") d

nameless : (o : Option Data) → is_some o ≡ false → [] ≡ or_else (option_and_then as_str o) [] (λ name. name ∷ [])
nameless None e = refl
nameless (Some d) e = absurd (cc (e))

pub step_quiet : (p : Path) (whole : Data) (o : Option Data) → or_else o [] (λ found. value_faults 3 kind.Step p whole found ++ []) ≡ []
unfolding value_faults broken
step_quiet p whole None = refl
step_quiet p whole (Some d) = refl

task_nameless : (a : Around) (name : Text) (s : SourceData) (params : List (Text × Text)) (limit : Option Text) → names_at (codes "get") (task_value a (record { name = name; source = s; params = params; timeout = limit })) ≡ []
task_nameless a name (config c) params limit = refl
task_nameless a name (file path) params limit = refl

task_known : (resources jobs : List Text) (a : Around) (q : Path) (name : Text) (s : SourceData) (params : List (Text × Text)) (limit : Option Text) → unknown_names resources jobs q (task_value a (record { name = name; source = s; params = params; timeout = limit })) ≡ []
unfolding unknown_resource unknown_passed
task_known resources jobs a q name (config c) params limit = refl
task_known resources jobs a q name (file path) params limit = refl

module _ (resources jobs names : List Text) (q : Path) (d : Data) (a : Around) (rec : Data → Tree) where
  module _ (lacks : is_some (at_key (codes "get") d) ≡ false) where
    order_opens : (ts : Trees) → Opens resources jobs names q d (printed a (in_order ts))
    unfolding value_faults broken unknown_resource unknown_passed
    order_opens ts = record { own = refl; known = refl; same = nameless (at_key (codes "get") d) lacks }

    parallel_opens : (ts : Trees) (fast : Bool) → Opens resources jobs names q d (printed a (in_parallel ts fast))
    unfolding value_faults broken object_faults unknown_resource unknown_passed
    parallel_opens ts fast = record { own = refl; known = refl; same = nameless (at_key (codes "get") d) lacks }

    try_opens : (t : Tree) → Opens resources jobs names q d (printed a (tried t))
    unfolding unknown_resource unknown_passed
    try_opens t = record {
      own = both_nil _ [] (step_quiet (path_below q (codes "try")) (printed a (tried t)) (unless_null (printed alone t))) refl;
      known = refl;
      same = nameless (at_key (codes "get") d) lacks;
    }

    holder_found : (x y z : Option Data) → Opens resources jobs names q d (printed a (holder_of rec x y z))
    holder_found None None None = order_opens no_trees
    holder_found None None (Some found) = try_opens (rec found)
    holder_found None (Some found) z = parallel_opens _ _
    holder_found (Some found) y z = order_opens _

    holder_opens : Opens resources jobs names q d (printed a (holder rec d))
    unfolding holder
    holder_opens = holder_found (at_key (codes "do") d) (at_key (codes "in_parallel") d) (at_key (codes "try") d)

  action_opens : (p : Path) → own_keys names p d ≡ [] → unknown_names resources jobs p d ≡ [] → Opens resources jobs names q d (printed a (action rec d))
  unfolding action
  action_opens p e known =
      of_kind (λ s. Opens resources jobs names q d (printed a s)) (is_some (at_key (codes "get") d)) _ _
      (λ g. record { own = get_quiet a names p q d e g; known = get_known resources jobs a names p q d e g known; same = get_named a names p d e g }) (λ g.
      of_kind (λ s. Opens resources jobs names q d (printed a s)) (is_some (at_key (codes "put") d)) _ _
      (λ u. record { own = put_quiet a names p q d e g u; known = put_known resources jobs a names p q d e g u known; same = nameless (at_key (codes "get") d) g }) (λ u.
      of_kind (λ s. Opens resources jobs names q d (printed a s)) (is_some (at_key (codes "task") d)) _ _
      (λ t. record {
        own = task_quiet a names p q d e g u t;
        known = task_known resources jobs a q (task_from d).name (task_from d).source (task_from d).params (task_from d).timeout;
        same = task_nameless a (task_from d).name (task_from d).source (task_from d).params (task_from d).timeout ∙ nameless (at_key (codes "get") d) g;
      }) (λ t. holder_opens g)))

opening_follows : (m t u : ℕ) (p q : Path) (d : Data) → Leads (spot_of Opening q (suc m) t (printed (around_of (step_tree m) d) (action (step_tree m) d)) ∷ []) (spot_of Opening p (suc m) u d ∷ [])
unfolding opening_faults shape_faults
opening_follows m t u p q d = record {
  follows = λ resources jobs names e known.
      let rec : Data → Tree = step_tree m in
      let a : Around = around_of rec d in
      let faults : opening_faults names p (suc m) d ≡ [] = nil_left (opening_faults names p (suc m) d) [] e in
      let unknown : unknown_names resources jobs p d ≡ [] = nil_left (unknown_names resources jobs p d) [] known in
      let o : Opens resources jobs names q d (printed a (action rec d)) = action_opens resources jobs names q d a rec p (opened_own names p (suc m) d faults) unknown in
      let s : Sound q (printed a (action rec d)) = sound a q (action rec d) (action_is rec d) in
      let shape : shape_faults p (suc m) d ≡ [] = nil_left (shape_faults p (suc m) d) _ faults in
      let depth : depth_faults p (suc m) ≡ [] = nil_left (depth_faults p (suc m)) _ (nil_right (unless (is_some (as_object d)) rule.Kind p) _ shape) in
      let printed_shape : shape_faults q (suc m) (printed a (action rec d)) ≡ [] =
      both_nil _ _ (ap (λ b. unless b rule.Kind q) s.is_object) (both_nil _ _ (elsewhere (nat_lt 0 (suc m)) rule.Depth rule.Depth p q depth) s.undone) in
      record {
        faults = both_nil _ [] (both_nil _ _ printed_shape (both_nil _ _ s.kind o.own)) refl;
        known = both_nil _ [] o.known refl;
        same = ap (λ ns. ns ++ []) o.same;
      };
}

-- the keys after them

-- what is broken in attempts
abbrev tested : Path → ℕ → Option Data → Faults
tested p tries o = or_else o [] (λ found.
    or_else (option_and_then as_u64 (as_number found)) (unless false (no_count found) p)
    (λ n. unless (nat_le 1 n && (nat_le n MOST_ATTEMPTS && nat_le (tries * n) MOST_TRIES)) rule.Attempts p))

number_again : (p q : Path) (tries : ℕ) (r : Rule) (o : Option ℕ) → or_else o (unless false r p) (λ n. unless (nat_le 1 n && (nat_le n MOST_ATTEMPTS && nat_le (tries * n) MOST_TRIES)) rule.Attempts p) ≡ [] → tested q tries (option_map (λ n. number (unsigned n)) o) ≡ []
number_again p q tries r None e = refl
number_again p q tries r (Some n) e = elsewhere (nat_le 1 n && (nat_le n MOST_ATTEMPTS && nat_le (tries * n) MOST_TRIES)) rule.Attempts rule.Attempts p q e

tested_again : (p q : Path) (tries : ℕ) (o : Option Data) → tested p tries o ≡ [] → tested q tries (option_map (λ n. number (unsigned n)) (option_and_then as_u64 (option_and_then as_number o))) ≡ []
tested_again p q tries None e = refl
tested_again p q tries (Some d) e = number_again p q tries (no_count d) (option_and_then as_u64 (as_number d)) e

closing_follows : (rec : Data → Tree) (d : Data) (s : Tree) → IsAction s → (m t : ℕ) (p q : Path) → Leads (spot_of Closing q m t (printed (around_of rec d) s) ∷ []) (spot_of Closing p m t d ∷ [])
unfolding closing_faults
closing_follows rec d s is m t p q = record {
  follows = λ resources jobs names e known.
      let faults : closing_faults p t d ≡ [] = nil_left (closing_faults p t d) [] e in
      let before : tested (path_below p (codes "attempts")) t (at_key (codes "attempts") d) ≡ [] = nil_right (parallel_rest p d) _ faults in
      let after : tested (path_below q (codes "attempts")) t (at_key (codes "attempts") (printed (around_of rec d) s)) ≡ [] =
      subst (λ o. tested (path_below q (codes "attempts")) t o ≡ []) (sym (at_attempts (around_of rec d) s is))
      (tested_again (path_below p (codes "attempts")) (path_below q (codes "attempts")) t (at_key (codes "attempts") d) before) in
      record { faults = both_nil _ [] (both_nil _ _ (sound (around_of rec d) q s is).rest after) refl; known = refl; same = refl };
}

-- what attempts count for the steps below
abbrev counting : Option Data → ℕ
counting o = or_else (option_and_then as_u64 (option_and_then as_number o)) 1 (λ n. if nat_le 1 n && nat_le n MOST_ATTEMPTS then n else 1)

counting_again : (o : Option ℕ) → counting (option_map (λ n. number (unsigned n)) o) ≡ or_else o 1 (λ n. if nat_le 1 n && nat_le n MOST_ATTEMPTS then n else 1)
counting_again None = refl
counting_again (Some n) = refl

tries_same : (rec : Data → Tree) (d : Data) (s : Tree) → IsAction s → (t : ℕ) → tries_below t (printed (around_of rec d) s) ≡ tries_below t d
tries_same rec d s is t =
    ap (λ o. min (t * counting o) (MOST_TRIES + 1)) (at_attempts (around_of rec d) s is)
    ∙ ap (λ n. min (t * n) (MOST_TRIES + 1)) (counting_again (count_of d))

-- the steps in it

module _ (m : ℕ) (down : (t : ℕ) (p q : Path) (d : Data) → Leads (steps_from m t q (printed alone (step_tree m d))) (steps_from m t p d)) (t : ℕ) where
  each : (p q : Path) (i j : ℕ) (ds : Items) → Leads (each_step (steps_from m) t q j (printed_each (trees_of (each_tree (step_tree m) ds)))) (each_step (steps_from m) t p i ds)
  each p q i j no_items = no_visit
  each p q i j (item d ds) = join _ _ _ _ (down t (path_at p i) (path_at q j) d) (each p q (i + 1) (j + 1) ds)

  found_follows : (p q : Path) (o : Option Data) → Leads (or_else (option_map (λ found. printed alone (step_tree m found)) o) [] (steps_from m t q)) (or_else o [] (steps_from m t p))
  found_follows p q None = no_visit
  found_follows p q (Some d) = down t p q d

  hook_follows : (p q : Path) (k : List ℕ) (d e : Data) → at_key k e ≡ hook_from (step_tree m) k d → Leads (step_at (steps_from m) t q k e) (step_at (steps_from m) t p k d)
  unfolding step_at
  hook_follows p q k d e is = rw is (found_follows (path_below p k) (path_below q k) (at_key k d))

  all_hooks : (p q : Path) (d e : Data) → ((w : When) → at_key (hook_key w) e ≡ hook_from (step_tree m) (hook_key w) d) → Leads (hook_steps (steps_from m) t q e) (hook_steps (steps_from m) t p d)
  unfolding hook_steps
  all_hooks p q d e is =
      join _ _ _ _ (hook_follows p q (codes "on_success") d e (is OnSuccess)) (join _ _ _ _ (hook_follows p q (codes "on_failure") d e (is OnFailure))
      (join _ _ _ _ (hook_follows p q (codes "on_error") d e (is OnError)) (join _ _ _ _ (hook_follows p q (codes "on_abort") d e (is OnAbort))
      (hook_follows p q (codes "ensure") d e (is Ensure)))))

  -- an in_parallel is a list, or an object with a list of steps
  parallel_follows : (p r q : Path) (d : Data) → Leads (each_step (steps_from m) t q 0 (printed_each (trees_of (each_tree (step_tree m) (parallel_items d)))) ++ []) (each_step (steps_from m) t p 0 (items_in d) ++ (steps_in (steps_from m) t r (codes "steps") d ++ []))
  unfolding steps_in
  parallel_follows p r q null = no_visit
  parallel_follows p r q (boolean b) = no_visit
  parallel_follows p r q (number n) = no_visit
  parallel_follows p r q (string s) = no_visit
  parallel_follows p r q (array ds) = join _ [] _ [] (each p q 0 0 ds) no_visit
  parallel_follows p r q (object ms) = join _ [] _ [] (each (path_below r (codes "steps")) q 0 0 (list_at (codes "steps") (object ms))) no_visit

  module _ (p : Path) where
    -- the steps in a do, an in_parallel and a try
    abbrev spots_in : Option Data → Option Data → Option Data → List Spot
    spots_in x y z =
        each_step (steps_from m) t (path_below p (codes "do")) 0 (or_else x no_items items_in)
        ++ (each_step (steps_from m) t (path_below p (codes "in_parallel")) 0 (or_else y no_items items_in)
        ++ (or_else y [] (steps_in (steps_from m) t (path_below p (codes "in_parallel")) (codes "steps"))
        ++ or_else z [] (steps_from m t (path_below p (codes "try")))))

    none_held : (x y z : Option Data) → held x y z ≡ 0 → Leads [] (spots_in x y z)
    none_held None None None e = no_visit
    none_held None None (Some d) e = absurd (omega (arith, e))
    none_held None (Some d) z e = absurd (omega (arith, e))
    none_held (Some d) y z e = absurd (omega (arith, e))

    module _ (q : Path) (a : Around) where
      get_own : (g : GetData) → own_steps (steps_from m) t q (get_value a g) ≡ []
      unfolding own_steps steps_in step_at
      get_own g = refl

      put_own : (u : PutData) → own_steps (steps_from m) t q (put_value a u) ≡ []
      unfolding own_steps steps_in step_at
      put_own u = refl

      task_own : (name : Text) (s : SourceData) (params : List (Text × Text)) (limit : Option Text) → own_steps (steps_from m) t q (task_value a (record { name = name; source = s; params = params; timeout = limit })) ≡ []
      unfolding own_steps steps_in step_at
      task_own name (config c) params limit = refl
      task_own name (file path) params limit = refl

      one_held : (x y z : Option Data) → held x y z < 2 → Leads (own_steps (steps_from m) t q (printed a (holder_of (step_tree m) x y z))) (spots_in x y z)
      unfolding own_steps steps_in step_at
      one_held None None None few = no_visit
      one_held None None (Some d) few = rw (not_null alone (step_tree m d)) (down t (path_below p (codes "try")) (path_below q (codes "try")) d)
      one_held None (Some d) None few =
          let r : Path = path_below p (codes "in_parallel") in
          parallel_follows r r (path_below (path_below q (codes "in_parallel")) (codes "steps")) d
      one_held None (Some d) (Some c) few = absurd (omega (arith, few))
      one_held (Some d) None None few =
          join _ [] _ [] (each (path_below p (codes "do")) (path_below q (codes "do")) 0 0 (items_in d)) no_visit
      one_held (Some d) None (Some c) few = absurd (omega (arith, few))
      one_held (Some d) (Some c) z few = absurd (omega (arith, few))

      by_kind : (g u k : Bool) (x y z : Option Data) (got : GetData) (sent : PutData) (done : TaskData) → having g u k (held x y z) < 2 → Leads (own_steps (steps_from m) t q (printed a (if g then get got else (if u then put sent else (if k then task done else holder_of (step_tree m) x y z))))) (spots_in x y z)
      by_kind true u k x y z got sent done few = rw (get_own got) (none_held x y z (omega (arith, few)))
      by_kind false true k x y z got sent done few = rw (put_own sent) (none_held x y z (omega (arith, few)))
      by_kind false false true x y z got sent done few = rw (task_own done.name done.source done.params done.timeout) (none_held x y z (omega (arith, few)))
      by_kind false false false x y z got sent done few = one_held x y z (omega (arith, few))

      own_follows : (d : Data) → having (is_some (at_key (codes "get") d)) (is_some (at_key (codes "put") d)) (is_some (at_key (codes "task") d)) (held (at_key (codes "do") d) (at_key (codes "in_parallel") d) (at_key (codes "try") d)) < 2 → Leads (own_steps (steps_from m) t q (printed a (action (step_tree m) d))) (own_steps (steps_from m) t p d)
      unfolding action holder own_steps steps_in step_at
      own_follows d few =
          by_kind (is_some (at_key (codes "get") d)) (is_some (at_key (codes "put") d)) (is_some (at_key (codes "task") d))
          (at_key (codes "do") d) (at_key (codes "in_parallel") d) (at_key (codes "try") d) (get_from d) (put_from d) (task_from d) few

-- a step

below_follows : (m : ℕ) → ((t : ℕ) (p q : Path) (d : Data) → Leads (steps_from m t q (printed alone (step_tree m d))) (steps_from m t p d)) → (t : ℕ) (p q : Path) (d : Data) → Follows (steps_from (suc m) t q (printed (around_of (step_tree m) d) (action (step_tree m) d))) (steps_from (suc m) t p d)
unfolding steps_from
below_follows m down t p q d resources jobs names e known =
    let rec : Data → Tree = step_tree m in
    let a : Around = around_of rec d in
    let s : Tree = action rec d in
    let is : IsAction s = action_is rec d in
    let v : ℕ = tries_below t d in
    let w : ℕ = tries_below t (printed a s) in
    let same : v ≡ w = sym (tries_same rec d s is t) in
    let few = one_kind names p (suc m) d (nil_left (opening_faults names p (suc m) d) _ e) in
    let own : Leads (own_steps (steps_from m) w q (printed a s)) (own_steps (steps_from m) v p d) =
    subst (λ u. Leads (own_steps (steps_from m) u q (printed a s)) (own_steps (steps_from m) v p d)) same (own_follows m down v p q a d few) in
    let hooks : Leads (hook_steps (steps_from m) w q (printed a s)) (hook_steps (steps_from m) v p d) =
    subst (λ u. Leads (hook_steps (steps_from m) u q (printed a s)) (hook_steps (steps_from m) v p d)) same (all_hooks m down v p q d (printed a s) (λ k. at_hook rec d s is k)) in
    let after = join _ _ _ _ (closing_follows rec d s is (suc m) t p q) hooks in
    (join _ _ _ _ (opening_follows m t t p q d) (join _ _ _ _ own after)).follows resources jobs names e known

pub step_follows : (n t : ℕ) (p q : Path) (d : Data) → Follows (steps_from n t q (printed alone (step_tree n d))) (steps_from n t p d)
unfolding steps_from
step_follows zero t p q d = λ resources jobs names e known. absurd (no_level names p d (nil_left _ _ e))
step_follows (suc m) t p q d =
    subst (λ e. Follows (steps_from (suc m) t q e) (steps_from (suc m) t p d)) (sym (printed_step m d))
    (below_follows m (λ u r v c. record { follows = step_follows m u r v c }) t p q d)

-- a job

plan_leads : (n : ℕ) (p q : Path) (d e : Data) → list_at (codes "plan") e ≡ printed_each (trees_of (each_tree (step_tree n) (list_at (codes "plan") d))) → Leads (steps_in (steps_from n) 1 q (codes "plan") e) (steps_in (steps_from n) 1 p (codes "plan") d)
unfolding steps_in
plan_leads n p q d e is = rw is (each n (λ t p q d. record { follows = step_follows n t p q d }) 1 (path_below p (codes "plan")) (path_below q (codes "plan")) 0 0 (list_at (codes "plan") d))

pub plan_follows : (p q : Path) (d : Data) → Follows (plan_steps q (job_value (job_from d))) (plan_steps p d)
plan_follows p q d = (plan_leads LEVELS p q d (job_value (job_from d)) (job_plan d)).follows

pub hooks_follow : (p q : Path) (d : Data) → Follows (job_hooks q (job_value (job_from d))) (job_hooks p d)
hooks_follow p q d = (all_hooks LEVELS (λ t p q d. record { follows = step_follows LEVELS t p q d }) 1 p q d (job_value (job_from d)) (job_hook d)).follows
