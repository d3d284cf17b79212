-- The parts of an index, and what the rules of its problem say of them.
use Rattle.std.proofs.Common.{◌≡◌, ℕ, zero, suc, ◌+◌, ◌-◌, ◌*◌, ◌^◌, ◌<◌, ◌≤◌, List, [], ◌∷◌, ◌++◌, length, map, slice_index, slice_index_or, slice_set, Bool, true, ◌&&◌, nat_lt, nat_le, get_or, inl, inr, refl, sym, ap, ◌∙◌, subst, arith, ◌↔◌, IsTrue, All, Result, Ok, Err}
use Rattle.std.specs.Prelude.{EachIndex, OnErr, Any, Contains}
use Rattle.std.proofs.lemmas.Bool.{and_parts, cases_Bool, cases_lt, cond-true, cond-false, ltb-true, leb-true, le-leb}
use Rattle.std.proofs.lemmas.List.{get_or-map, get_or_read, length-map, length-set, map-set, get_or-set_same, get_or-set_other, get_or_default, get_or_append_left, length-append}
use Rattle.std.proofs.Math.Seq.{map-set_same, get_or-append_seam}
use Rattle.std.proofs.lemmas.List.Elements.{All-set, All-cons, All-nil}
use Rattle.ccr_choice.specs.Problem.{ProblemValue, InputValue, BuildValue, no_input, IsProblem, is_problem, is_input, is_after, is_build, are_inputs, are_numbered, are_distinct, next_used, used_after, are_builds, are_builds_below, are_pairs_after, are_places_after, scopes_after, input_at, builds_at}
use Rattle.ccr_choice.specs.Dominated.{IsNamedIn}
use Rattle.ccr_choice.proofs.Members.{any_first, any_later, any_cases}
use Rattle.ccr_choice.proofs.Bounds.{rules_of, builds_kept}
use Rattle.ccr_choice.proofs.Numbering.{named_in}
use Rattle.ccr_choice.proofs.Places.{places_kept}
use Rattle.ccr_choice.specs.Ascending.{is_before, AreAscending, AreRising}
use Rattle.ccr_choice.proofs.Lookups.{before_is, pairs_ascend, places_rise}
use Rattle.ccr_index.specs.Rows.{InputRowsValue, JobRowsValue, no_build, with_place, with_kept, AreDescending}
use Rattle.ccr_index.specs.Alike.{does_count, AreCounted}
use Rattle.ccr_index.specs.Index.{IndexValue, problem_in, AreTops, IsIndex, with_version, with_after, with_new_build, left_after}

-- ---- an element
no_rows : InputRowsValue
no_rows = record { input = no_input; spare = 0 }

no_builds : JobRowsValue
no_builds = record { builds = []; scopes = []; spare = 0 }

pub input_in : (inputs : List InputRowsValue) (jobs : List JobRowsValue) (i : ℕ) (x : InputRowsValue) → i < length inputs → x ≡ slice_index_or inputs i x → x.input ≡ input_at (problem_in inputs jobs) i
unfolding no_rows
input_in inputs jobs i x within at =
    ap (λ y. y.input) (get_or_read inputs i x within at no_rows) ∙ sym (get_or-map (λ y. y.input) inputs i no_rows no_input within)

pub rows_in : (inputs : List InputRowsValue) (jobs : List JobRowsValue) (j : ℕ) (r : JobRowsValue) → j < length jobs → r ≡ slice_index_or jobs j r → r.builds ≡ builds_at (problem_in inputs jobs) j
unfolding no_builds
rows_in inputs jobs j r within at =
    ap (λ y. y.builds) (get_or_read jobs j r within at no_builds) ∙ sym (get_or-map (λ y. y.builds) jobs j no_builds [] within)

-- ---- the numbers of builds
parts_below : (scopes high : ℕ) (b : BuildValue) (bs : List BuildValue) → are_builds_below scopes high (b ∷ bs) ≡ true → (b.number < high) × (are_builds_below scopes b.number bs ≡ true)
parts_below scopes high b bs h =
    let a = and_parts (is_build scopes high b) (are_builds_below scopes b.number bs) h in
    let c = and_parts (nat_lt 0 b.number) (nat_lt b.number high && are_pairs_after scopes 0 0 b.pairs) a.0 in
    let d = and_parts (nat_lt b.number high) (are_pairs_after scopes 0 0 b.pairs) c.1 in
    (ltb-true b.number high d.0, a.1)

below_high : (scopes high : ℕ) (bs : List BuildValue) → are_builds_below scopes high bs ≡ true → (k : ℕ) → k < length bs → (slice_index_or bs k no_build).number < high
below_high scopes high [] h k within = absurd (omega arith)
below_high scopes high (b ∷ bs) h zero within = (parts_below scopes high b bs h).0
below_high scopes high (b ∷ bs) h (suc k) within =
    let parts = parts_below scopes high b bs h in
    let low = below_high scopes b.number bs parts.1 k (omega arith) in
    omega (arith, low, parts.0)

fall_below : (scopes high : ℕ) (bs : List BuildValue) → are_builds_below scopes high bs ≡ true → AreDescending bs
fall_below scopes high [] h i j less within = absurd (omega arith)
fall_below scopes high (b ∷ bs) h zero zero less within = absurd (omega arith)
fall_below scopes high (b ∷ bs) h zero (suc j) less within = below_high scopes b.number bs (parts_below scopes high b bs h).1 j (omega arith)
fall_below scopes high (b ∷ bs) h (suc i) zero less within = absurd (omega arith)
fall_below scopes high (b ∷ bs) h (suc i) (suc j) less within = fall_below scopes b.number bs (parts_below scopes high b bs h).1 i j (omega arith) (omega arith)

-- a job has few builds, and their numbers fall
pub builds_rule : (scopes : ℕ) (bs : List BuildValue) → are_builds scopes bs ≡ true → (length bs ≤ 1000000) × AreDescending bs
builds_rule scopes bs h =
    let a = and_parts (nat_le (length bs) 1000000) (are_builds_below scopes 1000001 bs) h in
    (leb-true _ _ a.0, fall_below scopes 1000001 bs a.1)

-- ---- the pairs of a build
pairs_few : (scopes : ℕ) (ps : List (ℕ × ℕ)) (scope place : ℕ) → are_pairs_after scopes scope place ps ≡ true → place ≤ 100000 → scope * 100001 + place ≤ scopes * 100001
    → length ps + (scope * 100001 + place) ≤ scopes * 100001
pairs_few scopes [] scope place h low fits = omega arith
pairs_few scopes (p ∷ ps) scope place h low fits =
    let last : Bool = are_pairs_after scopes p.0 p.1 ps in
    let a = and_parts (is_before (scope, place) p) (nat_lt p.0 scopes && (nat_lt 0 p.1 && (nat_le p.1 100000 && last))) h in
    let b = and_parts (nat_lt p.0 scopes) (nat_lt 0 p.1 && (nat_le p.1 100000 && last)) a.1 in
    let c = and_parts (nat_lt 0 p.1) (nat_le p.1 100000 && last) b.1 in
    let d = and_parts (nat_le p.1 100000) last c.1 in
    let inside : p.0 < scopes = ltb-true _ _ b.0 in
    let most : p.1 ≤ 100000 = leb-true _ _ d.0 in
    let more : scope * 100001 + place + 1 ≤ p.0 * 100001 + p.1 = elim (before_is (scope, place) p a.0) [
      | inl less ↦ omega arith
      | inr both ↦ (let e = both.0 in let less = both.1 in omega arith)
    ] in
    let rest = pairs_few scopes ps p.0 p.1 d.1 most (omega arith) in
    omega (arith, rest, more)

-- a build's pairs ascend, and are few
pub pairs_rule : (scopes high : ℕ) (b : BuildValue) → scopes ≤ 32 → is_build scopes high b ≡ true → AreAscending b.pairs × (length b.pairs < 2 ^ 32)
pairs_rule scopes high b few h =
    let a = and_parts (nat_lt 0 b.number) (nat_lt b.number high && are_pairs_after scopes 0 0 b.pairs) h in
    let c = and_parts (nat_lt b.number high) (are_pairs_after scopes 0 0 b.pairs) a.1 in
    let bound = pairs_few scopes b.pairs 0 0 c.1 (omega arith) (omega arith) in
    (pairs_ascend scopes b.pairs 0 0 c.1, omega (arith, bound, few))

each_rule : (scopes high : ℕ) (bs : List BuildValue) → scopes ≤ 32 → are_builds_below scopes high bs ≡ true → All (λ b. length b.pairs < 2 ^ 32) bs
each_rule scopes high [] few h = All-nil (λ b. length b.pairs < 2 ^ 32)
each_rule scopes high (b ∷ bs) few h =
    let a = and_parts (is_build scopes high b) (are_builds_below scopes b.number bs) h in
    All-cons (λ x. length x.pairs < 2 ^ 32) b bs (pairs_rule scopes high b few a.0).1 (each_rule scopes b.number bs few a.1)

-- so has each build of a job
pub builds_few_pairs : (scopes : ℕ) (bs : List BuildValue) → scopes ≤ 32 → are_builds scopes bs ≡ true → All (λ b. length b.pairs < 2 ^ 32) bs
builds_few_pairs scopes bs few h = each_rule scopes 1000001 bs few (and_parts (nat_le (length bs) 1000000) (are_builds_below scopes 1000001 bs) h).1

-- the new build of a problem that keeps the rules
pub new_rule : (p : ProblemValue) (j : ℕ) (b : BuildValue) → j < length p.jobs → is_problem (with_new_build p j b) ≡ true → AreAscending b.pairs × (length b.pairs < 2 ^ 32) × (length (builds_at p j) < 1000000)
new_rule p j b within rules =
    let q : ProblemValue = with_new_build p j b in
    let kept = builds_kept q j (b ∷ builds_at p j) rules (omega (arith, within, length-set p.jobs j (b ∷ builds_at p j))) (sym (get_or-set_same p.jobs j (b ∷ builds_at p j) [] within)) in
    let a = and_parts (nat_le (length (b ∷ builds_at p j)) 1000000) (are_builds_below (scopes_after 0 p.inputs) 1000001 (b ∷ builds_at p j)) kept in
    let c = and_parts (is_build (scopes_after 0 p.inputs) 1000001 b) (are_builds_below (scopes_after 0 p.inputs) b.number (builds_at p j)) a.1 in
    let pairs = pairs_rule (scopes_after 0 p.inputs) 1000001 b (rules_of q rules).few_scopes c.0 in
    (pairs.0, pairs.1, (let most = leb-true _ _ a.0 in omega (arith, most)))

-- ---- a row added
pub version_in : (inputs : List InputRowsValue) (jobs : List JobRowsValue) (i place : ℕ) (x : InputRowsValue) → x.input ≡ with_place (input_at (problem_in inputs jobs) i) place
    → problem_in (slice_set inputs i x) jobs ≡ with_version (problem_in inputs jobs) i place
version_in inputs jobs i place x e =
    let P : List InputValue → ProblemValue = λ is. record { inputs = is; jobs = map (λ r. r.builds) jobs } in
    ap P (map-set (λ y. y.input) inputs i x ∙ ap (slice_set (map (λ y. y.input) inputs) i) e)

pub after_in : (inputs : List InputRowsValue) (jobs : List JobRowsValue) (i place : ℕ) (x : InputRowsValue) → x.input ≡ with_kept (input_at (problem_in inputs jobs) i) place
    → problem_in (slice_set inputs i x) jobs ≡ with_after (problem_in inputs jobs) i place
after_in inputs jobs i place x e =
    let P : List InputValue → ProblemValue = λ is. record { inputs = is; jobs = map (λ r. r.builds) jobs } in
    ap P (map-set (λ y. y.input) inputs i x ∙ ap (slice_set (map (λ y. y.input) inputs) i) e)

pub build_in : (inputs : List InputRowsValue) (jobs : List JobRowsValue) (j : ℕ) (b : BuildValue) (r : JobRowsValue) → r.builds ≡ b ∷ builds_at (problem_in inputs jobs) j
    → problem_in inputs (slice_set jobs j r) ≡ with_new_build (problem_in inputs jobs) j b
build_in inputs jobs j b r e =
    let P : List (List BuildValue) → ProblemValue = λ js. record { inputs = map (λ x. x.input) inputs; jobs = js } in
    ap P (map-set (λ y. y.builds) jobs j r ∙ ap (slice_set (map (λ y. y.builds) jobs) j) e)

less_places : (inputs : List InputRowsValue) (n m : ℕ) → m ≤ n → All (λ x. n ≤ x.spare) inputs → All (λ x. m ≤ x.spare) inputs
less_places inputs n m le all = λ k d within. omega (arith, le, all k d within)

less_pairs : (jobs : List JobRowsValue) (n m : ℕ) → m ≤ n → All (λ r. n ≤ r.spare) jobs → All (λ r. m ≤ r.spare) jobs
less_pairs jobs n m le all = λ k d within. omega (arith, le, all k d within)

-- ---- which scopes count
any_kept : {X : Type 0} (P : X → Type 0) (xs : List X) (i : ℕ) (y : X) → ((d : X) → i < length xs → P (get_or xs i d) → P y) → Any P xs → Any P (slice_set xs i y)
any_kept P [] i y f h = h
any_kept P (x ∷ xs) zero y f h = elim (any_cases P x xs h) [ inl here ↦ any_first P y xs (f x (omega arith) here) | inr more ↦ any_later P y xs more ]
any_kept P (x ∷ xs) (suc i) y f h =
    elim (any_cases P x xs h) [
      | inl here ↦ any_first P x (slice_set xs i y) here
      | inr more ↦ any_later P x (slice_set xs i y) (any_kept P xs i y (λ d within. f d (omega (arith, within))) more)
    ]

any_back : {X : Type 0} (P : X → Type 0) (xs : List X) (i : ℕ) (y : X) → ((d : X) → i < length xs → P y → P (get_or xs i d)) → Any P (slice_set xs i y) → Any P xs
any_back P [] i y f h = h
any_back P (x ∷ xs) zero y f h = elim (any_cases P y xs h) [ inl here ↦ any_first P x xs (f x (omega arith) here) | inr more ↦ any_later P x xs more ]
any_back P (x ∷ xs) (suc i) y f h =
    elim (any_cases P x (slice_set xs i y) h) [
      | inl here ↦ any_first P x xs here
      | inr more ↦ any_later P x xs (any_back P xs i y (λ d within. f d (omega (arith, within))) more)
    ]

-- an input of the same scope and jobs in place of another changes none
counted_set : (xs : List InputValue) (ss : List (List Bool)) (i : ℕ) (y : InputValue) → y.scope ≡ (slice_index_or xs i no_input).scope → y.jobs ≡ (slice_index_or xs i no_input).jobs
    → AreCounted xs ss → AreCounted (slice_set xs i y) ss
counted_set xs ss i y scopes jobs is j scope within =
    let P : InputValue → Type 0 = λ z. (z.scope ≡ scope) × Contains z.jobs j in
    let C : List ℕ → Type 0 = λ js. Contains js j in
    let same : (d : InputValue) → i < length xs → slice_index_or xs i no_input ≡ get_or xs i d = λ d inside. get_or_default xs i no_input d inside in
    let to : (d : InputValue) → i < length xs → P (get_or xs i d) → P y = λ d inside h. let old = subst P (sym (same d inside)) h in (scopes ∙ old.0, subst C (sym jobs) old.1) in
    let from : (d : InputValue) → i < length xs → P y → P (get_or xs i d) = λ d inside h. subst P (same d inside) (sym scopes ∙ h.0, subst C jobs h.1) in
    (λ t. any_kept P xs i y to ((is j scope within).0 t), λ h. (is j scope within).1 (any_back P xs i y from h))

-- a further job with its own
pub counted_push : (xs : List InputValue) (ss : List (List Bool)) (s : List Bool) → AreCounted xs ss
    → ((scope : ℕ) → IsTrue (does_count s scope) ↔ Any (λ i. (i.scope ≡ scope) × Contains i.jobs (length ss)) xs) → AreCounted xs (ss ++ s ∷ [])
counted_push xs ss s is new j scope within =
    let P : ℕ → List Bool → Type 0 = λ k t. IsTrue (does_count t scope) ↔ Any (λ i. (i.scope ≡ scope) × Contains i.jobs k) xs in
    elim (cases_lt j (length ss)) [
      | inl less ↦ (let Q : List Bool → Type 0 = P j in subst Q (sym (get_or_append_left ss (s ∷ []) [] j less)) (is j scope less))
      | inr le ↦ (let now : j ≡ length ss = omega (arith, le, within, length-append ss (s ∷ [])) in
          let Q : List Bool → Type 0 = P (length ss) in
          let R : ℕ → Type 0 = λ k. P k (slice_index_or (ss ++ s ∷ []) k []) in
          subst R (sym now) (subst Q (sym (get_or-append_seam ss s [] [])) (new scope)))
    ]

-- an index whose input i has a further place
pub index_raised : (inputs : List InputRowsValue) (jobs : List JobRowsValue) (tops tops' : List ℕ) (places pairs left i place : ℕ) (x : InputRowsValue) → IsIndex inputs jobs tops places pairs
    → x.input ≡ with_place (input_at (problem_in inputs jobs) i) place → left ≤ x.spare → left ≤ places → AreTops (with_version (problem_in inputs jobs) i place) tops' → IsIndex (slice_set inputs i x) jobs tops' left pairs
index_raised inputs jobs tops tops' places pairs left i place x is e room le best = record {
  tops = (let P : ProblemValue → Type 0 = λ p. AreTops p tops' in subst P (sym (version_in inputs jobs i place x e)) best);
  counted = (let P : List InputValue → Type 0 = λ xs. AreCounted xs (map (λ r. r.scopes) jobs) in
      subst P (sym (map-set (λ y. y.input) inputs i x)) (counted_set (map (λ y. y.input) inputs) (map (λ r. r.scopes) jobs) i x.input (ap (λ (y : InputValue). y.scope) e) (ap (λ (y : InputValue). y.jobs) e) is.counted));
  places = All-set (λ y. left ≤ y.spare) inputs i x room (less_places inputs places left le is.places);
  pairs = is.pairs;
}

-- an index with a place kept for input i
pub index_after : (inputs : List InputRowsValue) (jobs : List JobRowsValue) (tops tops' : List ℕ) (places pairs i place : ℕ) (d x : InputRowsValue) → IsIndex inputs jobs tops places pairs → i < length inputs
    → x.input ≡ with_kept (input_at (problem_in inputs jobs) i) place → x.spare ≡ (get_or inputs i d).spare → AreTops (with_after (problem_in inputs jobs) i place) tops' → IsIndex (slice_set inputs i x) jobs tops' places pairs
index_after inputs jobs tops tops' places pairs i place d x is inside e room best = record {
  tops = (let P : ProblemValue → Type 0 = λ p. AreTops p tops' in subst P (sym (after_in inputs jobs i place x e)) best);
  counted = (let P : List InputValue → Type 0 = λ xs. AreCounted xs (map (λ r. r.scopes) jobs) in
      subst P (sym (map-set (λ y. y.input) inputs i x)) (counted_set (map (λ y. y.input) inputs) (map (λ r. r.scopes) jobs) i x.input (ap (λ (y : InputValue). y.scope) e) (ap (λ (y : InputValue). y.jobs) e) is.counted));
  places = All-set (λ y. places ≤ y.spare) inputs i x (let old = is.places i d inside in omega (arith, old, room)) is.places;
  pairs = is.pairs;
}

-- an index whose job j has a further build
pub index_grown : (inputs : List InputRowsValue) (jobs : List JobRowsValue) (tops tops' : List ℕ) (places pairs left j : ℕ) (b : BuildValue) (d r : JobRowsValue) → IsIndex inputs jobs tops places pairs
    → r.builds ≡ b ∷ builds_at (problem_in inputs jobs) j → r.scopes ≡ (get_or jobs j d).scopes → left ≤ r.spare → left ≤ pairs → AreTops (with_new_build (problem_in inputs jobs) j b) tops' → IsIndex inputs (slice_set jobs j r) tops' places left
index_grown inputs jobs tops tops' places pairs left j b d r is e kept room le best = record {
  tops = (let P : ProblemValue → Type 0 = λ p. AreTops p tops' in subst P (sym (build_in inputs jobs j b r e)) best);
  counted = (let P : List (List Bool) → Type 0 = λ ss. AreCounted (map (λ x. x.input) inputs) ss in subst P (sym (map-set_same (λ (z : JobRowsValue). z.scopes) jobs j r d kept)) is.counted);
  places = is.places;
  pairs = All-set (λ y. left ≤ y.spare) jobs j r room (less_pairs jobs pairs left le is.pairs);
}

-- ---- more room
-- an element that has no less room, and is otherwise the same
module _ {X Y : Type 0} (f : X → Y) (spare : X → ℕ) (xs : List X) (i : ℕ) (d y : X) (within : i < length xs) (same : f y ≡ f (get_or xs i d)) (more : spare (get_or xs i d) ≤ spare y) where
  pub same_map : map f (slice_set xs i y) ≡ map f xs
  same_map = map-set_same f xs i y d same

  pub still_all : (n : ℕ) → All (λ z. n ≤ spare z) xs → All (λ z. n ≤ spare z) (slice_set xs i y)
  still_all n all = All-set (λ z. n ≤ spare z) xs i y (let old = all i d within in omega (arith, old, more)) all

  pub more_front : (n : ℕ) → n ≤ spare y → ((k : ℕ) (e : X) → k < i → n ≤ spare (get_or xs k e)) → (k : ℕ) (e : X) → k < i + 1 → n ≤ spare (get_or (slice_set xs i y) k e)
  more_front n room front k e below =
      elim (cases_lt k i) [
        | inl less ↦ (let old = front k e less in omega (arith, old, ap spare (get_or-set_other xs i k y e (λ same. omega (arith, same, less)))))
        | inr le ↦ (let now : k ≡ i = omega arith in omega (arith, room, ap spare (ap (λ n. get_or (slice_set xs i y) n e) now ∙ get_or-set_same xs i y e within)))
      ]

-- an index in which input i, or job j, has no less room
module _ (inputs : List InputRowsValue) (jobs : List JobRowsValue) (best : List ℕ) (n m : ℕ) (is : IsIndex inputs jobs best n m) where
  pub index_roomy_input : (i : ℕ) (x y : InputRowsValue) → x ≡ get_or inputs i x → i < length inputs → y.input ≡ x.input → x.spare ≤ y.spare
      → IsIndex (slice_set inputs i y) jobs best n m × (map (λ (z : InputRowsValue). z.input) (slice_set inputs i y) ≡ map (λ (z : InputRowsValue). z.input) inputs)
  index_roomy_input i x y at within same more =
      let mapped = same_map (λ (z : InputRowsValue). z.input) (λ z. z.spare) inputs i x y within (same ∙ ap (λ (z : InputRowsValue). z.input) at) (omega (arith, more, ap (λ (z : InputRowsValue). z.spare) at)) in
      let all = still_all (λ (z : InputRowsValue). z.input) (λ z. z.spare) inputs i x y within (same ∙ ap (λ (z : InputRowsValue). z.input) at) (omega (arith, more, ap (λ (z : InputRowsValue). z.spare) at)) n is.places in
      let P : List InputValue → Type 0 = λ is. AreTops (record { inputs = is; jobs = map (λ (r : JobRowsValue). r.builds) jobs }) best in
      let Q : List InputValue → Type 0 = λ xs. AreCounted xs (map (λ (r : JobRowsValue). r.scopes) jobs) in
      (record { tops = subst P (sym mapped) is.tops; counted = subst Q (sym mapped) is.counted; places = all; pairs = is.pairs }, mapped)

  pub index_roomy_job : (j : ℕ) (r s : JobRowsValue) → r ≡ get_or jobs j r → j < length jobs → s.builds ≡ r.builds → s.scopes ≡ r.scopes → r.spare ≤ s.spare
      → IsIndex inputs (slice_set jobs j s) best n m × (map (λ (z : JobRowsValue). z.builds) (slice_set jobs j s) ≡ map (λ (z : JobRowsValue). z.builds) jobs)
  index_roomy_job j r s at within same kept more =
      let mapped = same_map (λ (z : JobRowsValue). z.builds) (λ z. z.spare) jobs j r s within (same ∙ ap (λ (z : JobRowsValue). z.builds) at) (omega (arith, more, ap (λ (z : JobRowsValue). z.spare) at)) in
      let all = still_all (λ (z : JobRowsValue). z.builds) (λ z. z.spare) jobs j r s within (same ∙ ap (λ (z : JobRowsValue). z.builds) at) (omega (arith, more, ap (λ (z : JobRowsValue). z.spare) at)) m is.pairs in
      let P : List (List BuildValue) → Type 0 = λ js. AreTops (record { inputs = map (λ (x : InputRowsValue). x.input) inputs; jobs = js }) best in
      let Q : List (List Bool) → Type 0 = λ ss. AreCounted (map (λ (x : InputRowsValue). x.input) inputs) ss in
      let scopes = map-set_same (λ (z : JobRowsValue). z.scopes) jobs j s r (kept ∙ ap (λ (z : JobRowsValue). z.scopes) at) in
      (record { tops = subst P (sym mapped) is.tops; counted = subst Q (sym scopes) is.counted; places = is.places; pairs = all }, mapped)

-- rows that stand for the builds of a problem
pub rows_are : (p : ProblemValue) (jobs : List JobRowsValue) → map (λ r. r.builds) jobs ≡ p.jobs → (j : ℕ) (r : JobRowsValue) → j < length p.jobs → r ≡ get_or jobs j r → r.builds ≡ builds_at p j
unfolding no_builds
rows_are p jobs e j r within at =
    let long : length jobs ≡ length p.jobs = sym (length-map jobs (λ y. y.builds)) ∙ ap length e in
    ap (λ y. y.builds) (get_or_read jobs j r (omega (arith, within, long)) at no_builds) ∙ sym (get_or-map (λ y. y.builds) jobs j no_builds [] (omega (arith, within, long))) ∙ ap (λ js. slice_index_or js j []) e

-- ---- what a reader of an index gives
abbrev pub viewed : List InputRowsValue → List JobRowsValue → ℕ → ℕ → IndexValue
viewed inputs jobs n m = record { problem = problem_in inputs jobs; spare_places = n; spare_pairs = m }

pub record InputFacts (v : IndexValue) (i : ℕ) (x : InputRowsValue) : Type 0 where
  pub value : x.input ≡ input_at v.problem i
  pub rising : AreRising x.input.places
  pub below : EachIndex x.input.jobs (λ k. slice_index x.input.jobs k < length v.problem.jobs)
  pub kept : IsProblem v.problem

pub input_facts : (inputs : List InputRowsValue) (jobs : List JobRowsValue) (best : List ℕ) (n m : ℕ) → IsIndex inputs jobs best n m → (v : IndexValue) → viewed inputs jobs n m ≡ v
    → (i : ℕ) (x : InputRowsValue) → i < length v.problem.inputs → x ≡ slice_index_or inputs i x → InputFacts v i x
input_facts inputs jobs best n m is v e i x inside at =
    let P : IndexValue → Type 0 = λ w. i < length w.problem.inputs → InputFacts w i x in
    let here : P (viewed inputs jobs n m) = λ within.
    let p = problem_in inputs jobs in
    let same = input_in inputs jobs i x (omega (arith, within, length-map inputs (λ y. y.input))) at in
    record {
      value = same;
      rising = places_rise x.input.places 0 (ap (λ (y : InputValue). are_places_after 0 y.places) same ∙ places_kept p i is.tops.rules within);
      below = λ k few. named_in p i k x.input.jobs (ap (λ (y : InputValue). y.jobs) same) is.tops.rules within few;
      kept = is.tops.rules;
    } in
    subst P e here inside

pub record RowsFacts (v : IndexValue) (j : ℕ) (r : JobRowsValue) : Type 0 where
  pub value : r.builds ≡ builds_at v.problem j
  pub few : length r.builds ≤ 1000000
  pub descending : AreDescending r.builds
  pub limit : length v.problem.jobs ≤ 32
  pub counted : (scope : ℕ) → IsTrue (does_count r.scopes scope) ↔ IsNamedIn v.problem j scope

scopes_at : (jobs : List JobRowsValue) (j : ℕ) (r : JobRowsValue) → j < length jobs → r ≡ slice_index_or jobs j r → r.scopes ≡ slice_index_or (map (λ y. y.scopes) jobs) j []
unfolding no_builds
scopes_at jobs j r within at = ap (λ y. y.scopes) (get_or_read jobs j r within at no_builds) ∙ sym (get_or-map (λ y. y.scopes) jobs j no_builds [] within)

pub rows_facts : (inputs : List InputRowsValue) (jobs : List JobRowsValue) (best : List ℕ) (n m : ℕ) → IsIndex inputs jobs best n m → (v : IndexValue) → viewed inputs jobs n m ≡ v
    → (j : ℕ) (r : JobRowsValue) → j < length v.problem.jobs → r ≡ slice_index_or jobs j r → RowsFacts v j r
rows_facts inputs jobs best n m is v e j r inside at =
    let P : IndexValue → Type 0 = λ w. j < length w.problem.jobs → RowsFacts w j r in
    let here : P (viewed inputs jobs n m) = λ within.
    let p = problem_in inputs jobs in
    let same = rows_in inputs jobs j r (omega (arith, within, length-map jobs (λ y. y.builds))) at in
    let rule = builds_rule (scopes_after 0 p.inputs) r.builds (builds_kept p j r.builds is.tops.rules within same) in
    let inside : j < length jobs = omega (arith, within, length-map jobs (λ y. y.builds)) in
    let C : List Bool → ℕ → Type 0 = λ ss scope. IsTrue (does_count ss scope) ↔ IsNamedIn p j scope in
    record {
      value = same;
      few = rule.0;
      descending = rule.1;
      limit = (rules_of p is.tops.rules).few_jobs;
      counted = λ scope. (let P : List Bool → Type 0 = λ ss. C ss scope in
          subst P (sym (scopes_at jobs j r inside at)) (is.counted j scope (omega (arith, inside, length-map jobs (λ y. y.scopes)))));
    } in
    subst P e here inside

-- ---- what a call that adds a row gives
pub on_err : {T E : Type 0} (r : Result T E) (P : Type 0) → P → OnErr r P
on_err (Ok x) P h = tt
on_err (Err e) P h = h

pub left_one : (n : ℕ) → n - 1 ≡ left_after n 1
left_one zero = refl
left_one (suc n) = sym (cond-true (nat_le 1 (suc n)) (suc n - 1) (suc n) (le-leb 1 (suc n) (omega arith)))

pub left_all : (spare added : ℕ) → added ≤ spare → spare - added ≡ left_after spare added
left_all spare added le = sym (cond-true (nat_le added spare) (spare - added) spare (le-leb added spare le))

pub left_none : (spare added : ℕ) → spare < added → spare ≡ left_after spare added
left_none spare added less = sym (cond-false (nat_le added spare) (spare - added) spare (elim (cases_Bool (nat_le added spare)) [
  | inl le ↦ (let h = leb-true added spare le in absurd (omega arith))
  | inr e ↦ e
]))

pub version_value : (inputs : List InputRowsValue) (jobs : List JobRowsValue) (n m : ℕ) (i place left : ℕ) (x : InputRowsValue) (v : IndexValue) → viewed inputs jobs n m ≡ v
    → x.input ≡ with_place (input_at (problem_in inputs jobs) i) place → left ≡ left_after n 1
    → viewed (slice_set inputs i x) jobs left m ≡ record { problem = with_version v.problem i place; spare_places = left_after v.spare_places 1; spare_pairs = v.spare_pairs }
version_value inputs jobs n m i place left x v e added same =
    let To : IndexValue → IndexValue = λ w. record { problem = with_version w.problem i place; spare_places = left_after w.spare_places 1; spare_pairs = w.spare_pairs } in
    let P : ProblemValue → IndexValue = λ q. record { problem = q; spare_places = left; spare_pairs = m } in
    let Q : ℕ → IndexValue = λ k. record { problem = with_version (problem_in inputs jobs) i place; spare_places = k; spare_pairs = m } in
    ap P (version_in inputs jobs i place x added) ∙ ap Q same ∙ ap To e

pub after_value : (inputs : List InputRowsValue) (jobs : List JobRowsValue) (n m : ℕ) (i place : ℕ) (x : InputRowsValue) (v : IndexValue) → viewed inputs jobs n m ≡ v
    → x.input ≡ with_kept (input_at (problem_in inputs jobs) i) place
    → viewed (slice_set inputs i x) jobs n m ≡ record { problem = with_after v.problem i place; spare_places = v.spare_places; spare_pairs = v.spare_pairs }
after_value inputs jobs n m i place x v e kept =
    let To : IndexValue → IndexValue = λ w. record { problem = with_after w.problem i place; spare_places = w.spare_places; spare_pairs = w.spare_pairs } in
    let P : ProblemValue → IndexValue = λ q. record { problem = q; spare_places = n; spare_pairs = m } in
    ap P (after_in inputs jobs i place x kept) ∙ ap To e

pub build_value : (inputs : List InputRowsValue) (jobs : List JobRowsValue) (n m : ℕ) (j added left : ℕ) (b : BuildValue) (r : JobRowsValue) (v : IndexValue) → viewed inputs jobs n m ≡ v
    → r.builds ≡ b ∷ builds_at (problem_in inputs jobs) j → left ≡ left_after m added
    → viewed inputs (slice_set jobs j r) n left ≡ record { problem = with_new_build v.problem j b; spare_places = v.spare_places; spare_pairs = left_after v.spare_pairs added }
build_value inputs jobs n m j added left b r v e grown same =
    let To : IndexValue → IndexValue = λ w. record { problem = with_new_build w.problem j b; spare_places = w.spare_places; spare_pairs = left_after w.spare_pairs added } in
    let P : ProblemValue → IndexValue = λ q. record { problem = q; spare_places = n; spare_pairs = left } in
    let Q : ℕ → IndexValue = λ k. record { problem = with_new_build (problem_in inputs jobs) j b; spare_places = n; spare_pairs = k } in
    ap P (build_in inputs jobs j b r grown) ∙ ap Q same ∙ ap To e

-- positions within the index, from those within its problem
pub input_inside : (inputs : List InputRowsValue) (jobs : List JobRowsValue) (n m : ℕ) (v : IndexValue) → viewed inputs jobs n m ≡ v → (i : ℕ) → i < length v.problem.inputs → i < length inputs
input_inside inputs jobs n m v e i inside =
    let P : IndexValue → Type 0 = λ w. i < length w.problem.inputs in
    let within : i < length (map (λ (x : InputRowsValue). x.input) inputs) = subst P (sym e) inside in
    omega (arith, within, length-map inputs (λ (x : InputRowsValue). x.input))

pub job_inside : (inputs : List InputRowsValue) (jobs : List JobRowsValue) (n m : ℕ) (v : IndexValue) → viewed inputs jobs n m ≡ v → (j : ℕ) → j < length v.problem.jobs → j < length jobs
job_inside inputs jobs n m v e j inside =
    let P : IndexValue → Type 0 = λ w. j < length w.problem.jobs in
    let within : j < length (map (λ (r : JobRowsValue). r.builds) jobs) = subst P (sym e) inside in
    omega (arith, within, length-map jobs (λ (r : JobRowsValue). r.builds))

-- ---- the scope of an input
next_low : (used n : ℕ) → n ≤ used → n < next_used used n
next_low used n le = grind arith

next_kept : (used n : ℕ) → used ≤ next_used used n
next_kept used n = grind arith

after_more : (scopes : ℕ) (is : List InputValue) → scopes ≤ scopes_after scopes is
after_more scopes [] = omega arith
after_more scopes (i ∷ is) = omega (arith, next_kept scopes i.scope, after_more (next_used scopes i.scope) is)

scope_below : (scopes jobs : ℕ) (is : List InputValue) → are_inputs scopes jobs is ≡ true → (k : ℕ) → k < length is → (slice_index_or is k no_input).scope < scopes_after scopes is
scope_below scopes jobs [] h k within = absurd (omega arith)
scope_below scopes jobs (i ∷ is) h zero within =
    let a = and_parts (is_input scopes jobs i) (are_inputs (next_used scopes i.scope) (used_after jobs i.jobs) is) h in
    let b = and_parts (nat_le i.scope scopes) (are_distinct i.jobs && (are_numbered jobs i.jobs && (is_after i.after && are_places_after 0 i.places))) a.0 in
    let low = next_low scopes i.scope (leb-true _ _ b.0) in
    omega (arith, low, after_more (next_used scopes i.scope) is)
scope_below scopes jobs (i ∷ is) h (suc k) within =
    let a = and_parts (is_input scopes jobs i) (are_inputs (next_used scopes i.scope) (used_after jobs i.jobs) is) h in
    scope_below (next_used scopes i.scope) (used_after jobs i.jobs) is a.1 k (omega arith)

pub scope_low : (p : ProblemValue) (k : ℕ) → is_problem p ≡ true → k < length p.inputs → (input_at p k).scope < 32
scope_low p k h within = let rules = rules_of p h in let low = scope_below 0 0 p.inputs rules.inputs k within in omega (arith, low, rules.few_scopes)
