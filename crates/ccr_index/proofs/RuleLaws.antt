-- A problem that keeps the rules keeps them with one more row, if the row does.
use Rattle.std.proofs.Common.{◌≡◌, ℕ, zero, suc, ◌+◌, ◌<◌, ◌≤◌, List, [], ◌∷◌, ◌++◌, length, drop, get_or, slice_index_or, slice_set, true, ◌&&◌, ◌==◌, nat_lt, nat_le, refl, ap, ◌∙◌, sym, arith}
use Rattle.std.specs.List.{list_all}
use Rattle.std.proofs.lemmas.Bool.{and_parts, and_from, lt-ltb, le-leb, ltb-true, leb-true}
use Rattle.std.proofs.lemmas.List.{length-set}
use Rattle.ccr_choice.specs.Problem.{ProblemValue, InputValue, BuildValue, no_input, is_problem, is_input, is_after, is_build, are_inputs, are_distinct, are_numbered, are_places_after, are_builds, are_builds_below, are_pairs_after, next_used, used_after, scopes_after, jobs_after, input_at, builds_at}
use Rattle.ccr_choice.proofs.Bounds.{rules_of, builds_kept}
use Rattle.ccr_index.specs.Rows.{no_build, with_place, last_after}
use Rattle.ccr_index.specs.Index.{with_version, with_new_build}

-- ---- one more place
pub last_at : (low : ℕ) (xs : List ℕ) (k d : ℕ) → length xs ≡ suc k → get_or xs k d ≡ last_after low xs
last_at low [] k d e = absurd (omega (arith, e))
last_at low (x ∷ []) zero d e = refl
last_at low (x ∷ []) (suc k) d e = absurd (omega (arith, e))
last_at low (x ∷ (y ∷ ys)) zero d e = absurd (omega (arith, e))
last_at low (x ∷ (y ∷ ys)) (suc k) d e = last_at x (y ∷ ys) k d (omega (arith, e))

places_more : (low : ℕ) (xs : List ℕ) (n : ℕ) → are_places_after low xs ≡ true → last_after low xs < n → n ≤ 100000 → are_places_after low (xs ++ n ∷ []) ≡ true
places_more low [] n h less most = and_from (nat_lt low n) _ (lt-ltb _ _ less) (and_from (nat_le n 100000) true (le-leb _ _ most) refl)
places_more low (x ∷ xs) n h less most =
    let a = and_parts (nat_lt low x) (nat_le x 100000 && are_places_after x xs) h in
    let b = and_parts (nat_le x 100000) (are_places_after x xs) a.1 in
    and_from (nat_lt low x) _ a.0 (and_from (nat_le x 100000) _ b.0 (places_more x xs n b.1 less most))

inputs_more : (is : List InputValue) (i place s j : ℕ) → i < length is → last_after 0 (slice_index_or is i no_input).places < place → place ≤ 100000 → are_inputs s j is ≡ true
    → are_inputs s j (slice_set is i (with_place (slice_index_or is i no_input) place)) ≡ true
inputs_more [] i place s j within less most h = absurd (omega arith)
inputs_more (y ∷ ys) zero place s j within less most h =
    let a = and_parts (is_input s j y) (are_inputs (next_used s y.scope) (used_after j y.jobs) ys) h in
    let rest = is_after y.after && are_places_after 0 y.places in
    let b = and_parts (nat_le y.scope s) (are_distinct y.jobs && (are_numbered j y.jobs && rest)) a.0 in
    let c = and_parts (are_distinct y.jobs) (are_numbered j y.jobs && rest) b.1 in
    let d = and_parts (are_numbered j y.jobs) rest c.1 in
    let e = and_parts (is_after y.after) (are_places_after 0 y.places) d.1 in
    and_from (is_input s j (with_place y place)) _
    (and_from (nat_le y.scope s) _ b.0 (and_from (are_distinct y.jobs) _ c.0 (and_from (are_numbered j y.jobs) _ d.0 (and_from (is_after y.after) _ e.0 (places_more 0 y.places place e.1 less most))))) a.1
inputs_more (y ∷ ys) (suc i) place s j within less most h =
    let a = and_parts (is_input s j y) (are_inputs (next_used s y.scope) (used_after j y.jobs) ys) h in
    and_from (is_input s j y) _ a.0 (inputs_more ys i place (next_used s y.scope) (used_after j y.jobs) (omega arith) less most a.1)

scopes_same : (is : List InputValue) (i place s : ℕ) → i < length is → scopes_after s (slice_set is i (with_place (slice_index_or is i no_input) place)) ≡ scopes_after s is
scopes_same [] i place s within = absurd (omega arith)
scopes_same (y ∷ ys) zero place s within = refl
scopes_same (y ∷ ys) (suc i) place s within = scopes_same ys i place (next_used s y.scope) (omega arith)

jobs_same : (is : List InputValue) (i place j : ℕ) → i < length is → jobs_after j (slice_set is i (with_place (slice_index_or is i no_input) place)) ≡ jobs_after j is
jobs_same [] i place j within = absurd (omega arith)
jobs_same (y ∷ ys) zero place j within = refl
jobs_same (y ∷ ys) (suc i) place j within = jobs_same ys i place (used_after j y.jobs) (omega arith)

pub version_kept : (p : ProblemValue) (i place : ℕ) → is_problem p ≡ true → i < length p.inputs → last_after 0 (input_at p i).places < place → place ≤ 100000
    → is_problem (with_version p i place) ≡ true
version_kept p i place h within less most =
    let few = nat_le (length p.inputs) 32 in
    let counted = length p.jobs == jobs_after 0 p.inputs in
    let builds = list_all (are_builds (scopes_after 0 p.inputs)) p.jobs in
    let a = and_parts few (are_inputs 0 0 p.inputs && (counted && builds)) h in
    let b = and_parts (are_inputs 0 0 p.inputs) (counted && builds) a.1 in
    let c = and_parts counted builds b.1 in
    let is = slice_set p.inputs i (with_place (input_at p i) place) in
    and_from (nat_le (length is) 32) _ (ap (λ n. nat_le n 32) (length-set p.inputs i (with_place (input_at p i) place)) ∙ a.0)
    (and_from (are_inputs 0 0 is) _ (inputs_more p.inputs i place 0 0 within less most b.0)
    (and_from (length p.jobs == jobs_after 0 is) _ (ap (λ n. length p.jobs == n) (jobs_same p.inputs i place 0 within) ∙ c.0)
    (ap (λ n. list_all (are_builds n) p.jobs) (scopes_same p.inputs i place 0 within) ∙ c.1)))

places_less : (low : ℕ) (xs : List ℕ) (n : ℕ) → are_places_after low (xs ++ n ∷ []) ≡ true → (last_after low xs < n) × (n ≤ 100000)
places_less low [] n h =
    let a = and_parts (nat_lt low n) (nat_le n 100000 && true) h in
    (ltb-true _ _ a.0, leb-true _ _ (and_parts (nat_le n 100000) true a.1).0)
places_less low (x ∷ xs) n h =
    let a = and_parts (nat_lt low x) (nat_le x 100000 && are_places_after x (xs ++ n ∷ [])) h in
    places_less x xs n (and_parts (nat_le x 100000) (are_places_after x (xs ++ n ∷ [])) a.1).1

inputs_less : (is : List InputValue) (i place s j : ℕ) → i < length is → are_inputs s j (slice_set is i (with_place (slice_index_or is i no_input) place)) ≡ true
    → (last_after 0 (slice_index_or is i no_input).places < place) × (place ≤ 100000)
inputs_less [] i place s j within h = absurd (omega (arith, within))
inputs_less (y ∷ ys) zero place s j within h =
    let z = with_place y place in
    let a = and_parts (is_input s j z) (are_inputs (next_used s y.scope) (used_after j y.jobs) ys) h in
    let rest = is_after y.after && are_places_after 0 z.places in
    let b = and_parts (nat_le y.scope s) (are_distinct y.jobs && (are_numbered j y.jobs && rest)) a.0 in
    let c = and_parts (are_distinct y.jobs) (are_numbered j y.jobs && rest) b.1 in
    let d = and_parts (are_numbered j y.jobs) rest c.1 in
    places_less 0 y.places place (and_parts (is_after y.after) (are_places_after 0 z.places) d.1).1
inputs_less (y ∷ ys) (suc i) place s j within h =
    let rest = slice_set ys i (with_place (slice_index_or ys i no_input) place) in
    inputs_less ys i place (next_used s y.scope) (used_after j y.jobs) (omega (arith, within))
    (and_parts (is_input s j y) (are_inputs (next_used s y.scope) (used_after j y.jobs) rest) h).1

pub version_asks : (p : ProblemValue) (i place : ℕ) → i < length p.inputs → is_problem (with_version p i place) ≡ true
    → (last_after 0 (input_at p i).places < place) × (place ≤ 100000)
version_asks p i place within h = inputs_less p.inputs i place 0 0 within (rules_of (with_version p i place) h).inputs

-- ---- one more build
all_set : (n : ℕ) (js : List (List BuildValue)) (j : ℕ) (x : List BuildValue) → list_all (are_builds n) js ≡ true → are_builds n x ≡ true → list_all (are_builds n) (slice_set js j x) ≡ true
all_set n [] j x h new = refl
all_set n (y ∷ ys) zero x h new = and_from (are_builds n x) _ new (and_parts (are_builds n y) (list_all (are_builds n) ys) h).1
all_set n (y ∷ ys) (suc j) x h new =
    let a = and_parts (are_builds n y) (list_all (are_builds n) ys) h in
    and_from (are_builds n y) _ a.0 (all_set n ys j x a.1 new)

below_less : (n high low : ℕ) (bs : List BuildValue) → are_builds_below n high bs ≡ true → (slice_index_or bs 0 no_build).number < low → are_builds_below n low bs ≡ true
below_less n high low [] h less = refl
below_less n high low (b ∷ bs) h less =
    let a = and_parts (is_build n high b) (are_builds_below n b.number bs) h in
    let c = and_parts (nat_lt 0 b.number) (nat_lt b.number high && are_pairs_after n 0 0 b.pairs) a.0 in
    let d = and_parts (nat_lt b.number high) (are_pairs_after n 0 0 b.pairs) c.1 in
    and_from (is_build n low b) _ (and_from (nat_lt 0 b.number) _ c.0 (and_from (nat_lt b.number low) _ (lt-ltb _ _ less) d.1)) a.1

pub build_kept : (p : ProblemValue) (j : ℕ) (b : BuildValue) → is_problem p ≡ true → j < length p.jobs → (slice_index_or (builds_at p j) 0 no_build).number < b.number
    → b.number ≤ 1000000 → length (builds_at p j) < 1000000 → are_pairs_after (scopes_after 0 p.inputs) 0 0 b.pairs ≡ true → is_problem (with_new_build p j b) ≡ true
build_kept p j b h within newer most room pairs =
    let few = nat_le (length p.inputs) 32 in
    let counted = length p.jobs == jobs_after 0 p.inputs in
    let n = scopes_after 0 p.inputs in
    let builds = list_all (are_builds n) p.jobs in
    let bs = builds_at p j in
    let a = and_parts few (are_inputs 0 0 p.inputs && (counted && builds)) h in
    let c = and_parts (are_inputs 0 0 p.inputs) (counted && builds) a.1 in
    let d = and_parts counted builds c.1 in
    let old = and_parts (nat_le (length bs) 1000000) (are_builds_below n 1000001 bs) (builds_kept p j bs h within refl) in
    let one : is_build n 1000001 b ≡ true = and_from (nat_lt 0 b.number) _ (lt-ltb _ _ (omega (arith, newer))) (and_from (nat_lt b.number 1000001) _ (lt-ltb _ _ (omega (arith, most))) pairs) in
    let new : are_builds n (b ∷ bs) ≡ true =
    and_from (nat_le (length (b ∷ bs)) 1000000) _ (le-leb _ _ (omega (arith, room))) (and_from (is_build n 1000001 b) _ one (below_less n 1000001 b.number bs old.1 newer)) in
    and_from few _ a.0 (and_from (are_inputs 0 0 p.inputs) _ c.0
    (and_from (length (slice_set p.jobs j (b ∷ bs)) == jobs_after 0 p.inputs) _ (ap (λ m. m == jobs_after 0 p.inputs) (length-set p.jobs j (b ∷ bs)) ∙ d.0)
    (all_set n p.jobs j (b ∷ bs) d.1 new)))

-- what a problem asks of the newest build of a job
pub record Asked (p : ProblemValue) (j : ℕ) (b : BuildValue) : Type 0 where
  pub newer : (slice_index_or (builds_at p j) 0 no_build).number < b.number
  pub most : b.number ≤ 1000000
  pub room : length (builds_at p j) < 1000000
  pub pairs : are_pairs_after (scopes_after 0 p.inputs) 0 0 b.pairs ≡ true

set_at : (js : List (List BuildValue)) (j : ℕ) (x : List BuildValue) → j < length js → slice_index_or (slice_set js j x) j [] ≡ x
set_at [] j x within = absurd (omega (arith, within))
set_at (y ∷ ys) zero x within = refl
set_at (y ∷ ys) (suc j) x within = set_at ys j x (omega (arith, within))

first_less : (n high : ℕ) (bs : List BuildValue) → 0 < high → are_builds_below n high bs ≡ true → (slice_index_or bs 0 no_build).number < high
first_less n high [] some h = some
first_less n high (b ∷ bs) some h =
    let a = and_parts (is_build n high b) (are_builds_below n b.number bs) h in
    let c = and_parts (nat_lt 0 b.number) (nat_lt b.number high && are_pairs_after n 0 0 b.pairs) a.0 in
    ltb-true _ _ (and_parts (nat_lt b.number high) (are_pairs_after n 0 0 b.pairs) c.1).0

pub build_asks : (p : ProblemValue) (j : ℕ) (b : BuildValue) → j < length p.jobs → is_problem (with_new_build p j b) ≡ true → Asked p j b
build_asks p j b within h =
    let n = scopes_after 0 p.inputs in
    let bs = builds_at p j in
    let q = with_new_build p j b in
    let same_length = length-set p.jobs j (b ∷ bs) in
    let all : are_builds n (b ∷ bs) ≡ true = builds_kept q j (b ∷ bs) h (omega (arith, within, same_length)) (sym (set_at p.jobs j (b ∷ bs) within)) in
    let a = and_parts (nat_le (length (b ∷ bs)) 1000000) (are_builds_below n 1000001 (b ∷ bs)) all in
    let c = and_parts (is_build n 1000001 b) (are_builds_below n b.number bs) a.1 in
    let d = and_parts (nat_lt 0 b.number) (nat_lt b.number 1000001 && are_pairs_after n 0 0 b.pairs) c.0 in
    let e = and_parts (nat_lt b.number 1000001) (are_pairs_after n 0 0 b.pairs) d.1 in
    let few = leb-true _ _ a.0 in
    let most = ltb-true _ _ e.0 in
    record {
      newer = first_less n b.number bs (ltb-true _ _ d.0) c.1;
      most = omega (arith, most);
      room = omega (arith, few);
      pairs = e.1;
    }

-- ---- the scopes, input by input
scopes_next : (is : List InputValue) (i s : ℕ) (d : InputValue) → i < length is → scopes_after s (drop i is) ≡ scopes_after (next_used s (get_or is i d).scope) (drop (suc i) is)
scopes_next [] i s d within = absurd (omega arith)
scopes_next (x ∷ xs) zero s d within = refl
scopes_next (x ∷ xs) (suc i) s d within = scopes_next xs i s d (omega arith)

pub scopes_step : (is : List InputValue) (i s : ℕ) (d : InputValue) → i < length is → scopes_after s (drop i is) ≡ scopes_after (next_used s (get_or is i d).scope) (drop (i + 1) is)
scopes_step is i s d within =
    let e : suc i ≡ i + 1 = omega arith in
    scopes_next is i s d within ∙ ap (λ n. scopes_after (next_used s (get_or is i d).scope) (drop n is)) e
