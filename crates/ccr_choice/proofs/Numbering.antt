-- Numbers given in order of first use lie below how many are used.
use Rattle.std.proofs.Common.{◌≡◌, ℕ, subst, zero, suc, slice_index_or, ◌+◌, ◌<◌, ◌≤◌, List, [], ◌∷◌, ◌++◌, Bool, true, ◌&&◌, length, slice_index, arith, refl}
use Rattle.std.proofs.lemmas.Bool.{and_parts, leb-true, eqb-true}
use Rattle.ccr_choice.specs.Problem.{ProblemValue, InputValue, input_at, no_input, next_used, used_after, are_numbered, are_inputs, jobs_after, scopes_after, is_problem}

le-next_used : (used n : ℕ) → used ≤ next_used used n
le-next_used used n = grind arith

le-used_after : (used : ℕ) (ns : List ℕ) → used ≤ used_after used ns
le-used_after used [] = omega arith
le-used_after used (n ∷ ns) = omega (arith, le-next_used used n, le-used_after (next_used used n) ns)

le-jobs_after : (used : ℕ) (is : List InputValue) → used ≤ jobs_after used is
le-jobs_after used [] = omega arith
le-jobs_after used (i ∷ is) = omega (arith, le-used_after used i.jobs, le-jobs_after (used_after used i.jobs) is)

left : (a b : Bool) → (a && b) ≡ true → a ≡ true
left a b h = (and_parts a b h).0

right : (a b : Bool) → (a && b) ≡ true → b ≡ true
right a b h = (and_parts a b h).1

-- a number that is new or used is used afterwards
lt-next_used : (used n : ℕ) → n ≤ used → n < next_used used n
lt-next_used used n h = grind arith

numbered_below : (used : ℕ) (ns : List ℕ) → are_numbered used ns ≡ true → (k : ℕ) → k < length ns → slice_index ns k < used_after used ns
numbered_below used [] h k within = omega arith
numbered_below used (n ∷ ns) h zero within =
    omega (arith, lt-next_used used n (leb-true n used (left _ _ h)), le-used_after (next_used used n) ns)
numbered_below used (n ∷ ns) h (suc k) within =
    numbered_below (next_used used n) ns (right _ _ (right _ _ h)) k (omega arith)

inputs_below : (scopes jobs : ℕ) (is : List InputValue) → are_inputs scopes jobs is ≡ true → (i k : ℕ) → i < length is
    → k < length (slice_index_or is i no_input).jobs → slice_index (slice_index_or is i no_input).jobs k < jobs_after jobs is
inputs_below scopes jobs [] h i k within below = absurd (omega arith)
inputs_below scopes jobs (x ∷ is) h zero k within below =
    omega (arith, numbered_below jobs x.jobs (left _ _ (right _ _ (right _ _ (left _ _ h)))) k below, le-jobs_after (used_after jobs x.jobs) is)
inputs_below scopes jobs (x ∷ is) h (suc i) k within below =
    inputs_below (next_used scopes x.scope) (used_after jobs x.jobs) is (right _ _ h) i k (omega arith) below

pub named_below : (p : ProblemValue) → is_problem p ≡ true → (i k : ℕ) → i < length p.inputs → k < length (input_at p i).jobs → slice_index (input_at p i).jobs k < length p.jobs
named_below p h i k within below =
    let inner = inputs_below 0 0 p.inputs (left _ _ (right _ _ h)) i k within below in
    let same : length p.jobs ≡ jobs_after 0 p.inputs = eqb-true _ _ (left _ _ (right _ _ (right _ _ h))) in
    rw same inner

pub named_in : (p : ProblemValue) (i k : ℕ) (xs : List ℕ) → xs ≡ (input_at p i).jobs → is_problem p ≡ true → i < length p.inputs → k < length xs → slice_index xs k < length p.jobs
named_in p i k xs e h within below =
    rw e (named_below p h i k within (let P : List ℕ → Type 0 = λ ys. k < length ys in subst P e below))

pub scopes_after-push : (used : ℕ) (is : List InputValue) (i : InputValue) → scopes_after used (is ++ i ∷ []) ≡ next_used (scopes_after used is) i.scope
scopes_after-push used [] i = refl
scopes_after-push used (x ∷ is) i = scopes_after-push (next_used used x.scope) is i

pub jobs_after-push : (used : ℕ) (is : List InputValue) (i : InputValue) → jobs_after used (is ++ i ∷ []) ≡ used_after (jobs_after used is) i.jobs
jobs_after-push used [] i = refl
jobs_after-push used (x ∷ is) i = jobs_after-push (used_after used x.jobs) is i

pub next_used-le : (used n k : ℕ) → used ≤ k → next_used used n ≤ k + 1
next_used-le used n k h = grind arith
