-- A job whose first fault tells of attempts has attempts that break their limits.
use Rattle.std.proofs.Common.{◌≡◌, ◌⊎◌, inl, inr, ℕ, zero, suc, ◌*◌, ◌≤◌, List, [], ◌∷◌, ◌++◌, Bool, true, false, not, ◌&&◌, nat_le, nat_lt, refl, sym, ◌∙◌, Option, Some, None, arith, option_and_then, is_some, codes, if◌then◌else◌}
use Rattle.std.proofs.lemmas.Bool.Decides.{nat_tests}
use Rattle.std.specs.List.{AllByRecursion, list_any}
use Rattle.std.specs.Option.{IfSome}
use Rattle.serde_json.specs.Data.{Data}
use Rattle.serde_json.specs.Find.{as_number, as_u64, as_i64}
use Rattle.ccr_pipeline.specs.declared.fault.Rule.TheVariants as rule
use Rattle.ccr_pipeline.specs.declared.step.When.{When}
use Rattle.ccr_pipeline.specs.Breaches.{is_negative, HasBadTries}
use Rattle.ccr_pipeline.specs.Faults.{Path, unless}
use Rattle.ccr_pipeline.specs.JobRules.{job_rest}
use Rattle.ccr_pipeline.specs.Keys.{at_key, or_else, list_at, path_below}
use Rattle.ccr_pipeline.specs.Limits.{tries, TriesFit, AllTriesFit}
use Rattle.ccr_pipeline.specs.Places.{Spot, steps_from, plan_steps, job_hooks, tries_below}
use Rattle.ccr_pipeline.specs.Plans.{plan_from}
use Rattle.ccr_pipeline.specs.Steps.{step_tree, with_attempts, with_hooks, each_tree, holder, action}
use Rattle.ccr_pipeline.specs.StepRules.{opening_faults, attempts_faults}
use Rattle.ccr_pipeline.specs.Tree.{Tree, in_order, trees_of, hook, attempts}
use Rattle.ccr_pipeline.proofs.Given.{Gives, own-given, hooks-given, plan-given}
use Rattle.ccr_pipeline.proofs.Ordered.{one_kind}
use Rattle.ccr_pipeline.proofs.Quiet.{QuietStep, plan_quiet, hooks_quiet, step_quiet}
use Rattle.ccr_pipeline.proofs.QuietJobs.{rest_silent}
use Rattle.ccr_pipeline.proofs.Told.{Tells, Silent, other, silent_append, silent_unless, opening_silent, closing_silent}
use Rattle.ccr_pipeline.proofs.Tries.{Few, own, own-some, bounded}

-- a step that keeps the limits below this product of attempts, and whose own have that one
abbrev Kept : ℕ → ℕ → Tree → Type 0
Kept t k s = TriesFit t s × (tries s ≡ k)

all_fit : (t : ℕ) (ts : List Tree) → AllTriesFit t (trees_of ts) → AllByRecursion (TriesFit t) ts
all_fit t [] h = tt
all_fit t (s ∷ ts) h = (h.0, all_fit t ts h.1)

gives : (t : ℕ) → Gives (Kept t 1) (TriesFit t)
gives t = record { order = λ ts h. all_fit t ts h.0; parallel = λ ts fast h. all_fit t ts h.0; trying = λ s h. h.0 }

in_hook : (t k : ℕ) (w : When) (s h : Tree) → Kept t k (hook w s h) → Kept t k s × TriesFit (t * k) h
in_hook t k w s h q =
    let below : TriesFit (t * k) h = rw q.1 at q.0.1 in
    ((q.0.0, q.1), below)

-- a step fits if it does in its hooks, where it has the same attempts
unhooked : (t : ℕ) (rec : Data → Tree) (d : Data) (s : Tree) → TriesFit t (with_hooks rec d s) → Kept t (tries (with_hooks rec d s)) s
unhooked t rec d s fit =
    let k : ℕ = tries (with_hooks rec d s) in
    (hooks-given (λ c. TriesFit (t * k) (rec c)) (Kept t k) (TriesFit (t * k)) rec (λ c f. f) (in_hook t k) d s (fit, refl)).0

in_attempts : (t : ℕ) (o : Option ℕ) (s : Tree) → TriesFit t (or_else o s (λ n. attempts n s)) → IfSome o (Few t) × TriesFit (t * own o) s
in_attempts t None s fit = let one : t * 1 ≡ t = omega arith in (tt, rw one fit)
in_attempts t (Some n) s fit =
    let few : Few t n = record { some = grind (arith, nat_tests, fit.0.0); few = grind (arith, nat_tests, fit.0.1); all = grind (arith, nat_tests, fit.1.0) } in
    (few, rw (own-some t n few) fit.1.1)

own_tries : (t : ℕ) (o : Option ℕ) (s : Tree) → IfSome o (Few t) → tries s ≡ 1 → tries (or_else o s (λ n. attempts n s)) ≡ own o
own_tries t None s few plain = plain
own_tries t (Some n) s few plain = let one : n * 1 ≡ n = omega arith in rw (plain, one, own-some t n few) refl

-- a step without attempts of its own
record Plain (s : Tree) : Type 0 where
  one : tries s ≡ 1

of_key : (o : Option Data) (s : Tree) (f : Data → Tree) → Plain s → ((d : Data) → Plain (f d)) → Plain (or_else o s f)
of_key None s f h g = h
of_key (Some d) s f h g = g d

of_kind : (b : Bool) (s h : Tree) → Plain s → Plain h → Plain (if b then s else h)
of_kind true s h x y = x
of_kind false s h x y = y

plain : (rec : Data → Tree) (d : Data) → Plain (action rec d)
unfolding action holder
plain rec d =
    of_kind (is_some (at_key (codes "get") d)) _ _ (record { one = refl })
    (of_kind (is_some (at_key (codes "put") d)) _ _ (record { one = refl })
    (of_kind (is_some (at_key (codes "task") d)) _ _ (record { one = refl })
    (of_key (at_key (codes "do") d) _ _ (of_key (at_key (codes "in_parallel") d) _ _
    (of_key (at_key (codes "try") d) _ _ (record { one = refl }) (λ found. record { one = refl }))
    (λ found. record { one = refl })) (λ found. record { one = refl }))))

-- a visit of a step whose attempts aren't below 0
abbrev NotNegative : Spot → Type 0
NotNegative x = is_negative x.step ≡ false

in_number : (t : ℕ) (p : Path) (o : Option ℕ) (b : Bool) → (not (is_some o) && b) ≡ false → IfSome o (Few t) → Silent rule.Attempts (or_else o (unless false (if b then rule.Attempts else rule.Kind) p) (λ n. unless (nat_le 1 n && (nat_le n 100 && nat_le (t * n) 10000)) rule.Attempts p))
in_number t p None true e few = absurd (cc (e))
in_number t p None false e few = other rule.Attempts tt rule.Kind (λ x. x)
in_number t p (Some n) b e few = rw (few.some, few.few, few.all) (λ x. x)

attempts_silent : (t : ℕ) (p : Path) (d : Data) (o : Option Data) → at_key (codes "attempts") d ≡ o → is_negative d ≡ false → IfSome (option_and_then as_u64 (option_and_then as_number (at_key (codes "attempts") d))) (Few t) → Silent rule.Attempts (attempts_faults p t d)
attempts_silent t p d None is e few = rw is (λ x. x)
attempts_silent t p d (Some found) is e few =
    let sign : (not (is_some (option_and_then as_u64 (as_number found))) && is_some (option_and_then as_i64 (as_number found))) ≡ false = rw is at e in
    let small : IfSome (option_and_then as_u64 (as_number found)) (Few t) = rw is at few in
    rw is (in_number t (path_below p (codes "attempts")) (option_and_then as_u64 (as_number found)) (is_some (option_and_then as_i64 (as_number found))) sign small)

before_silent : (names : List (List ℕ)) (p : Path) (n : ℕ) (d : Data) → Silent rule.Attempts (opening_faults names p n d)
before_silent names p n d = opening_silent rule.Attempts tt names p n d (silent_unless rule.Attempts (nat_lt 0 n) rule.Depth p (λ e. cc (e)))

-- a step with no level left is quiet
none_left : (t : ℕ) (d : Data) → QuietStep rule.Attempts NotNegative 0 t d
unfolding steps_from
none_left t d p all names = silent_append rule.Attempts (opening_faults names p 0 d) [] (before_silent names p 0 d) (λ x. x)

-- a step that keeps the limits is quiet
quiet : (n t : ℕ) (d : Data) → t ≤ 10000 → TriesFit t (step_tree n d) → QuietStep rule.Attempts NotNegative n t d
unfolding step_tree
quiet zero t d h fit p = none_left t d p
quiet (suc n) t d h fit p =
    let rec : Data → Tree = step_tree n in
    let u : ℕ = tries_below t d in
    let number : Option ℕ = option_and_then as_u64 (option_and_then as_number (at_key (codes "attempts") d)) in
    let tried : Kept t (tries (with_hooks rec d (with_attempts d (action rec d)))) (with_attempts d (action rec d)) = unhooked t rec d (with_attempts d (action rec d)) fit in
    let acted = in_attempts t number (action rec d) tried.0 in
    let same : tries (with_hooks rec d (with_attempts d (action rec d))) ≡ own number = sym tried.1 ∙ own_tries t number (action rec d) acted.0 (plain rec d).one in
    let most : t * own number ≤ 10000 = bounded t number h acted.0 in
    let is : u ≡ t * own number = grind (arith, most) in
    let up : (c : Data) → TriesFit (t * own number) (rec c) → QuietStep rule.Attempts NotNegative n u c = λ c f. rw is (quiet n (t * own number) c most f) in
    let hooks = hooks-given (QuietStep rule.Attempts NotNegative n u) (Kept t (own number)) (TriesFit (t * own number)) rec up (in_hook t (own number)) d (with_attempts d (action rec d)) (fit, same) in
    step_quiet rule.Attempts NotNegative n t d p
    (λ names. before_silent names p (suc n) d)
    (λ names e. own-given (QuietStep rule.Attempts NotNegative n u) (Kept (t * own number) 1) (TriesFit (t * own number)) rec up (gives (t * own number)) d (one_kind names p (suc n) d e) (acted.1, (plain rec d).one))
    (λ sign. closing_silent rule.Attempts tt p t d (attempts_silent t p d (at_key (codes "attempts") d) refl sign acted.0))
    hooks.1

few_tries : (p : Path) (d : Data) → TriesFit 1 (plan_from d) → AllByRecursion NotNegative (plan_steps p d ++ job_hooks p d) → Silent rule.Attempts (job_rest p d)
unfolding plan_from
few_tries p d fit all =
    let rec : Data → Tree = step_tree 30 in
    let order : Tree = in_order (trees_of (each_tree rec (list_at (codes "plan") d))) in
    let one : 1 ≡ tries (with_hooks rec d order) = (unhooked 1 rec d order fit).1 in
    let both = plan-given (QuietStep rule.Attempts NotNegative 30 1) (Kept 1 1) (TriesFit 1) rec (λ c f. quiet 30 1 c (omega arith) f) (in_hook 1 1) (gives 1) d (fit, sym one) in
    rest_silent rule.Attempts tt NotNegative p d (plan_quiet rule.Attempts NotNegative p d both.0) (hooks_quiet rule.Attempts NotNegative p d both.1) all

-- the visits of steps have attempts below 0, or none has
signs : (xs : List Spot) → AllByRecursion NotNegative xs ⊎ (list_any (λ x. is_negative x.step) xs ≡ true)
signs [] = inl tt
signs (x ∷ xs) = also (is_negative x.step) refl (signs xs)
  where
    also : (b : Bool) → is_negative x.step ≡ b → AllByRecursion NotNegative xs ⊎ (list_any (λ x. is_negative x.step) xs ≡ true) → AllByRecursion NotNegative (x ∷ xs) ⊎ (list_any (λ x. is_negative x.step) (x ∷ xs) ≡ true)
    also true e rest = inr (rw e refl)
    also false e (inl all) = inl (e, all)
    also false e (inr some) = inr (rw e some)

pub bad_job : (p : Path) (d : Data) → Tells rule.Attempts (job_rest p d) → HasBadTries d
bad_job p d told = by_sign (signs (plan_steps p d ++ job_hooks p d))
  where
    by_sign : AllByRecursion NotNegative (plan_steps p d ++ job_hooks p d) ⊎ (list_any (λ x. is_negative x.step) (plan_steps p d ++ job_hooks p d) ≡ true) → HasBadTries d
    by_sign (inl all) = inl (λ fit. few_tries p d fit all told)
    by_sign (inr some) = inr (p, some)
