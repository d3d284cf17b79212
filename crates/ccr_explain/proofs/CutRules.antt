-- A problem that is cut keeps the rules of problems.
use Rattle.std.proofs.Common.{◌≡◌, ℕ, zero, suc, ◌+◌, ◌<◌, ◌≤◌, inl, inr, Bool, true, ◌==◌, ◌&&◌, nat_lt, nat_le, List, [], ◌∷◌, ◌++◌, length, map, slice_index, slice_index_or, refl, sym, ap, ◌∙◌, subst, arith}
use Rattle.std.specs.Prelude.{All, Contains, EachIndex, filter}
use Rattle.std.specs.List.{list_any, list_all, range_with_len}
use Rattle.std.proofs.lemmas.Bool.{cases_Bool, cond-true, cond-false, and_parts, and_from, leb-true, le-leb, ltb-true, lt-ltb, eq-eqb, ne_eqb}
use Rattle.std.proofs.lemmas.List.{append_assoc, length-append, length_push}
use Rattle.std.proofs.lemmas.List.Elements.{All-nil, All-cons, All-head, All-tail, All-contains, All-get_or, All-from_get_or}
use Rattle.ccr_choice.specs.Problem.{ProblemValue, InputValue, BuildValue, no_input, input_at, builds_at, next_used, used_after, scopes_after, jobs_after, are_numbered, are_distinct, are_places_after, are_pairs_after, is_after, is_input, are_inputs, is_build, are_builds_below, are_builds, is_problem}
use Rattle.ccr_choice.proofs.Bounds.{rules_of, builds_kept}
use Rattle.ccr_choice.proofs.Numbering.{named_below}
use Rattle.ccr_choice.specs.Ascending.{AreRising}
use Rattle.ccr_choice.proofs.Lookups.{places_rise}
use Rattle.ccr_explain.specs.declared.demand.Demand.{Demand}
use Rattle.ccr_explain.specs.Cut.{is_allowed_of, is_passed_of, jobs_left, with_job, with_jobs, order_from, place_in, top_for, cut_input, cut_from, is_of_use, builds_from, order_left, inputs_cut, problem_with, IsNarrowed}
use Rattle.ccr_explain.specs.WhyNot.{narrowed_from}
use Rattle.ccr_explain.proofs.WhyLaws.{narrowed_rules, length_narrowed}
use Rattle.ccr_explain.proofs.Lists.{length_filter, all_contained, from_filter}
use Rattle.ccr_explain.proofs.Orders.{has, has_it, Grows, grows_none, grows_twice, grown_has, grows_jobs, jobs_there, all_jobs, Distinct, none, distinct_jobs, few_distinct, distinct_left, place_below, place_front, place_new}

-- ---- places
top_for-le : (top : ℕ) (js : List ℕ) → 1 ≤ top → top_for js top ≤ top
top_for-le top [] least = least
top_for-le top (j ∷ js) least = omega arith

pub range_places : (low a n : ℕ) → low < a → a + n ≤ 100001 → are_places_after low (range_with_len a n) ≡ true
range_places low a zero above most = refl
range_places low a (suc n) above most =
    and_from _ _ (lt-ltb low a above) (and_from _ _ (le-leb a 100000 (omega arith)) (range_places a (a + 1) n (omega arith) (omega arith)))

-- ---- the places of pairs
pub pairs_places : (scopes s q : ℕ) (ps : List (ℕ × ℕ)) → are_pairs_after scopes s q ps ≡ true → All (λ r. (0 < r.1) × (r.1 ≤ 100000)) ps
pairs_places scopes s q [] h = All-nil (λ r. (0 < r.1) × (r.1 ≤ 100000))
pairs_places scopes s q (p ∷ ps) h =
    let a = and_parts _ _ (and_parts _ _ h).1 in
    let b = and_parts _ _ a.1 in
    let c = and_parts _ _ b.1 in
    All-cons (λ r. (0 < r.1) × (r.1 ≤ 100000)) p ps (ltb-true 0 p.1 b.0, leb-true p.1 100000 c.0) (pairs_places scopes p.0 p.1 ps c.1)

pub builds_places : (scopes high : ℕ) (bs : List BuildValue) → are_builds_below scopes high bs ≡ true → All (λ b. All (λ r. (0 < r.1) × (r.1 ≤ 100000)) b.pairs) bs
builds_places scopes high [] h = All-nil (λ b. All (λ r. (0 < r.1) × (r.1 ≤ 100000)) b.pairs)
builds_places scopes high (b ∷ bs) h =
    let parts = and_parts (is_build scopes high b) (are_builds_below scopes b.number bs) h in
    let pairs = (and_parts _ _ (and_parts _ _ parts.0).1).1 in
    All-cons (λ b. All (λ r. (0 < r.1) × (r.1 ≤ 100000)) b.pairs) b bs (pairs_places scopes 0 0 b.pairs pairs) (builds_places scopes b.number bs parts.1)

-- ---- the jobs that are left
pub grows_order : (ds : List Demand) (n : ℕ) (order : List ℕ) (xs : List InputValue) → Grows order (order_from ds n order xs)
grows_order ds n order [] = grows_none order
grows_order ds n order (x ∷ xs) =
    grows_twice (grows_jobs order (jobs_left ds n x.jobs)) (grows_order ds (n + 1) (with_jobs order (jobs_left ds n x.jobs)) xs)

pub distinct_order : (ds : List Demand) (n : ℕ) (order : List ℕ) (xs : List InputValue) → Distinct order → Distinct (order_from ds n order xs)
distinct_order ds n order [] d = d
distinct_order ds n order (x ∷ xs) d = distinct_order ds (n + 1) (with_jobs order (jobs_left ds n x.jobs)) xs (distinct_jobs order (jobs_left ds n x.jobs) d)

-- what holds of each job that an input must still have passed holds of all
all_order : (P : ℕ → Type 0) (ds : List Demand) (n : ℕ) (order : List ℕ) (xs : List InputValue) → All P order
    → ((i m : ℕ) → n + i ≡ m → i < length xs → (j : ℕ) → Contains (jobs_left ds m (slice_index_or xs i no_input).jobs) j → P j)
    → All P (order_from ds n order xs)
all_order P ds n order [] all each = all
all_order P ds n order (x ∷ xs) all each =
    all_order P ds (n + 1) (with_jobs order (jobs_left ds n x.jobs)) xs
    (all_jobs P order (jobs_left ds n x.jobs) all (all_contained P (jobs_left ds n x.jobs) (λ j h. each 0 n (omega arith) (omega arith) j h)))
    (λ i m e within j h. each (suc i) m (omega arith) (omega arith) j h)

-- each of them is there
pub order_there : (ds : List Demand) (n i m : ℕ) (order : List ℕ) (xs : List InputValue) (j : ℕ) → n + i ≡ m → i < length xs
    → Contains (jobs_left ds m (slice_index_or xs i no_input).jobs) j → Contains (order_from ds n order xs) j
order_there ds n i m order [] j e within h = absurd (omega arith)
order_there ds n zero m order (x ∷ xs) j e within h =
    let same : m ≡ n = omega arith in
    let P : ℕ → Type 0 = λ k. Contains (jobs_left ds k x.jobs) j in
    grown_has j (grows_order ds (n + 1) (with_jobs order (jobs_left ds n x.jobs)) xs) (jobs_there order (jobs_left ds n x.jobs) j (subst P same h))
order_there ds n (suc i) m order (x ∷ xs) j e within h =
    order_there ds (n + 1) i m (with_jobs order (jobs_left ds n x.jobs)) xs j (omega arith) (omega arith) h

pub order_within : (ds : List Demand) (p : ProblemValue) → is_problem p ≡ true → All (λ j. j < length p.jobs) (order_left ds p)
unfolding order_left
order_within ds p rules =
    all_order (λ j. j < length p.jobs) ds 0 [] p.inputs (All-nil (λ j. j < length p.jobs)) (λ i m e within j h.
    (let named = (from_filter (λ k. list_any (is_passed_of m k) ds) j (input_at p i).jobs h).0 in
    named_one i within j named))
  where
    named_one : (i : ℕ) → i < length p.inputs → (j : ℕ) → Contains (input_at p i).jobs j → j < length p.jobs
    named_one i within j named =
        let jobs = (input_at p i).jobs in
        All-contains (λ k. k < length p.jobs) jobs j (All-from_get_or (λ k. k < length p.jobs) jobs 0 (λ k below. named_below p rules i k within below)) named

pub order_few : (ds : List Demand) (p : ProblemValue) → is_problem p ≡ true → length (order_left ds p) ≤ 32
unfolding order_left
order_few ds p rules =
    omega (arith, few_distinct (length p.jobs) (order_left ds p) (distinct_order ds 0 [] p.inputs none) (order_within ds p rules), (rules_of p rules).few_jobs)

pub order_known : (ds : List Demand) (p : ProblemValue) (order : List ℕ) → is_problem p ≡ true → order ≡ order_left ds p → EachIndex order (λ k. slice_index order k < length p.jobs)
order_known ds p order rules e =
    let P : List ℕ → Type 0 = λ xs. EachIndex xs (λ k. slice_index xs k < length p.jobs) in
    subst P (sym e) (λ k within. All-get_or (λ j. j < length p.jobs) (order_left ds p) k 0 within (order_within ds p rules))

-- ---- the new numbers
module _ (final : List ℕ) (few : length final ≤ 32) where
  pub record AreNumbered (order js : List ℕ) : Type 0 where
    pub numbered : are_numbered (length order) (map (place_in final) js) ≡ true
    pub used : used_after (length order) (map (place_in final) js) ≡ length (with_jobs order js)

  one_numbered : (order : List ℕ) (j : ℕ) (rest : List ℕ) → final ≡ with_job order j ++ rest
      → (place_in final j ≤ length order) × (place_in final j < 32) × (next_used (length order) (place_in final j) ≡ length (with_job order j))
  one_numbered order j rest e =
      let long : length final ≡ length (with_job order j) + length rest = ap length e ∙ length-append (with_job order j) rest in
      let among = has order j in
      let n = place_in final j in
      elim (cases_Bool among) [
        | inl holds ↦ (let same : with_job order j ≡ order = cond-true among order (order ++ j ∷ []) holds in
            let at : n ≡ place_in order j = ap (λ xs. place_in xs j) (e ∙ ap (λ ys. ys ++ rest) same) ∙ place_front order rest j (has_it order j holds) in
            let below = place_below order j (has_it order j holds) in
            let size = ap length same in
            (omega arith, omega arith, cond-false (n == length order) (length order + 1) (length order) (ne_eqb n (length order) (λ f. omega arith)) ∙ sym size))
        | inr fails ↦ (let grown : with_job order j ≡ order ++ j ∷ [] = cond-false among order (order ++ j ∷ []) fails in
            let at : n ≡ length order = ap (λ xs. place_in xs j) (e ∙ ap (λ ys. ys ++ rest) grown ∙ append_assoc order (j ∷ []) rest) ∙ place_new order rest j fails in
            let size : length (with_job order j) ≡ length order + 1 = ap length grown ∙ length_push order j in
            (omega arith, omega arith, cond-true (n == length order) (length order + 1) (length order) (eq-eqb n (length order) at) ∙ sym size))
      ]

  pub numbered : (order js rest : List ℕ) → final ≡ with_jobs order js ++ rest → AreNumbered order js
  numbered order [] rest e = record { numbered = refl; used = refl }
  numbered order (j ∷ js) rest e =
      let grown = grows_jobs (with_job order j) js in
      let one = one_numbered order j (grown.added ++ rest) (e ∙ ap (λ xs. xs ++ rest) grown.is ∙ append_assoc (with_job order j) grown.added rest) in
      let so = numbered (with_job order j) js rest e in
      let P : ℕ → Type 0 = λ n. are_numbered n (map (place_in final) js) ≡ true in
      let Q : ℕ → Type 0 = λ n. used_after n (map (place_in final) js) ≡ length (with_jobs (with_job order j) js) in
      record {
        numbered = and_from _ _ (le-leb _ _ one.0) (and_from _ _ (lt-ltb _ _ one.1) (subst P (sym one.2) so.numbered));
        used = subst Q (sym one.2) so.used;
      }

-- ---- the inputs
pub record AreCut (ds : List Demand) (top : ℕ) (final : List ℕ) (n s : ℕ) (order : List ℕ) (xs : List InputValue) : Type 0 where
  pub inputs : are_inputs s (length order) (cut_from ds final top n xs) ≡ true
  pub jobs : jobs_after (length order) (cut_from ds final top n xs) ≡ length final
  pub scopes : scopes_after s (cut_from ds final top n xs) ≡ scopes_after s xs

module _ (ds : List Demand) (top : ℕ) (least : 1 ≤ top) (most : top ≤ 100000) (final : List ℕ) (few : length final ≤ 32) where
  places_cut : (n : ℕ) (x : InputValue) → are_places_after 0 x.places ≡ true → are_places_after 0 (cut_input ds final top n x).places ≡ true
  places_cut n x h =
      let P : List ℕ → Type 0 = λ ys. are_places_after 0 ys ≡ true in
      let left = list_any (is_allowed_of n) ds in
      let far = top_for (jobs_left ds n x.jobs) top in
      elim (cases_Bool left) [
        | inl holds ↦ subst P (sym (cond-true left x.places (range_with_len 1 far) holds)) h
        | inr fails ↦ subst P (sym (cond-false left x.places (range_with_len 1 far) fails))
            (range_places 0 1 far (omega arith) (omega (arith, top_for-le top (jobs_left ds n x.jobs) least)))
      ]

  pub cut_so : (n s : ℕ) (order : List ℕ) (xs : List InputValue) (used : ℕ) → are_inputs s used xs ≡ true → final ≡ order_from ds n order xs → AreCut ds top final n s order xs
  cut_so n s order [] used h e = record { inputs = refl; jobs = sym (ap length e); scopes = refl }
  cut_so n s order (x ∷ xs) used h e =
      let parts = and_parts (is_input s used x) (are_inputs (next_used s x.scope) (used_after used x.jobs) xs) h in
      let a = and_parts _ _ parts.0 in
      let b = and_parts _ _ a.1 in
      let c = and_parts _ _ b.1 in
      let d = and_parts (is_after x.after) (are_places_after 0 x.places) c.1 in
      let js = jobs_left ds n x.jobs in
      let next = with_jobs order js in
      let grown = grows_order ds (n + 1) next xs in
      let front : final ≡ next ++ grown.added = e ∙ grown.is in
      let so = numbered final few order js grown.added front in
      let rest = cut_so (n + 1) (next_used s x.scope) next xs (used_after used x.jobs) parts.1 e in
      let there : All (Contains final) js = all_contained (Contains final) js (λ j among. (let P : List ℕ → Type 0 = λ ys. Contains ys j in
      subst P (sym e) (grown_has j grown (jobs_there order js j among)))) in
      let apart = distinct_left (λ j. list_any (is_passed_of n j) ds) final x.jobs there b.0 in
      let P : ℕ → Type 0 = λ u. are_inputs (next_used s x.scope) u (cut_from ds final top (n + 1) xs) ≡ true in
      let Q : ℕ → Type 0 = λ u. jobs_after u (cut_from ds final top (n + 1) xs) ≡ length final in
      record {
        inputs = and_from _ _ (and_from _ _ a.0 (and_from _ _ apart (and_from _ _ so.numbered (and_from _ _ d.0 (places_cut n x d.1))))) (subst P (sym so.used) rest.inputs);
        jobs = subst Q (sym so.used) rest.jobs;
        scopes = rest.scopes;
      }

pub length_cut : (ds : List Demand) (order : List ℕ) (top n : ℕ) (xs : List InputValue) → length (cut_from ds order top n xs) ≡ length xs
length_cut ds order top n [] = refl
length_cut ds order top n (x ∷ xs) = ap (λ k. suc k) (length_cut ds order top (n + 1) xs)

pub length_builds : (p : ProblemValue) (xs : List InputValue) (n : ℕ) (order : List ℕ) → length (builds_from p xs n order) ≡ length order
length_builds p xs n [] = refl
length_builds p xs n (j ∷ order) = ap (λ k. suc k) (length_builds p xs (n + 1) order)

lower_builds : (scopes low high : ℕ) (bs : List BuildValue) → low ≤ high → are_builds_below scopes low bs ≡ true → are_builds_below scopes high bs ≡ true
lower_builds scopes low high [] le h = refl
lower_builds scopes low high (b ∷ bs) le h =
    let parts = and_parts (is_build scopes low b) (are_builds_below scopes b.number bs) h in
    let one = and_parts (nat_lt 0 b.number) (nat_lt b.number low && are_pairs_after scopes 0 0 b.pairs) parts.0 in
    let two = and_parts (nat_lt b.number low) (are_pairs_after scopes 0 0 b.pairs) one.1 in
    and_from _ _ (and_from _ _ one.0 (and_from _ _ (lt-ltb b.number high (omega (arith, ltb-true b.number low two.0))) two.1)) parts.1

filtered_below : (test : BuildValue → Bool) (scopes high : ℕ) (bs : List BuildValue) → are_builds_below scopes high bs ≡ true → are_builds_below scopes high (filter test bs) ≡ true
filtered_below test scopes high [] h = refl
filtered_below test scopes high (b ∷ bs) h =
    let parts = and_parts (is_build scopes high b) (are_builds_below scopes b.number bs) h in
    let one = and_parts (nat_lt 0 b.number) (nat_lt b.number high && are_pairs_after scopes 0 0 b.pairs) parts.0 in
    let two = and_parts (nat_lt b.number high) (are_pairs_after scopes 0 0 b.pairs) one.1 in
    let rest = filtered_below test scopes b.number bs parts.1 in
    let P : List BuildValue → Type 0 = λ cs. are_builds_below scopes high cs ≡ true in
    elim (cases_Bool (test b)) [
      | inl holds ↦ subst P (sym (cond-true (test b) (b ∷ filter test bs) (filter test bs) holds)) (and_from _ _ parts.0 rest)
      | inr fails ↦ subst P (sym (cond-false (test b) (b ∷ filter test bs) (filter test bs) fails))
          (lower_builds scopes b.number high (filter test bs) (omega (arith, ltb-true b.number high two.0)) rest)
    ]

filtered_builds : (test : BuildValue → Bool) (scopes : ℕ) (bs : List BuildValue) → are_builds scopes bs ≡ true → are_builds scopes (filter test bs) ≡ true
filtered_builds test scopes bs h =
    let parts = and_parts (nat_le (length bs) 1000000) (are_builds_below scopes 1000001 bs) h in
    and_from _ _ (le-leb (length (filter test bs)) 1000000 (omega (arith, length_filter test bs, leb-true (length bs) 1000000 parts.0)))
    (filtered_below test scopes 1000001 bs parts.1)

builds_left : (p : ProblemValue) → is_problem p ≡ true → (xs : List InputValue) (n : ℕ) (order : List ℕ) → All (λ j. j < length p.jobs) order
    → list_all (are_builds (scopes_after 0 p.inputs)) (builds_from p xs n order) ≡ true
builds_left p rules xs n [] all = refl
builds_left p rules xs n (j ∷ order) all =
    let kept = builds_kept p j (builds_at p j) rules (All-head (λ k. k < length p.jobs) j order all) refl in
    and_from _ _ (filtered_builds (is_of_use xs n) (scopes_after 0 p.inputs) (builds_at p j) kept)
    (builds_left p rules xs (n + 1) order (All-tail (λ k. k < length p.jobs) j order all))

-- ---- the whole
inputs_so : (ds : List Demand) (top : ℕ) (p : ProblemValue) → is_problem p ≡ true → 1 ≤ top → top ≤ 100000 → AreCut ds top (order_left ds p) 0 0 [] p.inputs
unfolding order_left
inputs_so ds top p rules least most = cut_so ds top least most (order_left ds p) (order_few ds p rules) 0 0 [] p.inputs 0 (rules_of p rules).inputs refl

inputs_rise : (s used : ℕ) (xs : List InputValue) → are_inputs s used xs ≡ true → All (λ x. AreRising x.places) xs
inputs_rise s used [] h = All-nil (λ x. AreRising x.places)
inputs_rise s used (x ∷ xs) h =
    let parts = and_parts (is_input s used x) (are_inputs (next_used s x.scope) (used_after used x.jobs) xs) h in
    let one = and_parts (nat_le x.scope s) (are_distinct x.jobs && (are_numbered used x.jobs && (is_after x.after && are_places_after 0 x.places))) parts.0 in
    let two = and_parts (are_distinct x.jobs) (are_numbered used x.jobs && (is_after x.after && are_places_after 0 x.places)) one.1 in
    let three = and_parts (are_numbered used x.jobs) (is_after x.after && are_places_after 0 x.places) two.1 in
    let four = and_parts (is_after x.after) (are_places_after 0 x.places) three.1 in
    All-cons (λ y. AreRising y.places) x xs (places_rise x.places 0 four.1) (inputs_rise (next_used s x.scope) (used_after used x.jobs) xs parts.1)

-- the places of each input of a problem ascend
pub places_ascend : (p : ProblemValue) → is_problem p ≡ true → All (λ x. AreRising x.places) p.inputs
places_ascend p rules = inputs_rise 0 0 p.inputs (rules_of p rules).inputs

-- the places of each cut input ascend
pub cut_rises : (ds : List Demand) (top : ℕ) (p : ProblemValue) (xs : List InputValue) → is_problem p ≡ true → 1 ≤ top → top ≤ 100000 → xs ≡ inputs_cut ds top p → All (λ x. AreRising x.places) xs
unfolding inputs_cut
cut_rises ds top p xs rules least most e =
    let P : List InputValue → Type 0 = λ ys. All (λ x. AreRising x.places) ys in
    subst P (sym e) (inputs_rise 0 0 (cut_from ds (order_left ds p) top 0 p.inputs) (inputs_so ds top p rules least most).inputs)

-- a problem that is cut is a problem, also with fewer places
pub cut_rules : (ds : List Demand) (top : ℕ) (p : ProblemValue) (xs : List InputValue) → is_problem p ≡ true → 1 ≤ top → top ≤ 100000
    → IsNarrowed p (order_left ds p) (inputs_cut ds top p) xs → is_problem (problem_with ds p xs) ≡ true
unfolding problem_with inputs_cut
cut_rules ds top p xs rules least most narrowed =
    let r = rules_of p rules in
    let order = order_left ds p in
    let so = inputs_so ds top p rules least most in
    let inputs = cut_from ds order top 0 p.inputs in
    let fewer = narrowed_rules narrowed.may 0 0 0 inputs so.inputs in
    let left = narrowed_from narrowed.may 0 inputs in
    let P : ℕ → Type 0 = λ s. list_all (are_builds s) (builds_from p left 0 order) ≡ true in
    let Q : List InputValue → Type 0 = λ ys. is_problem (record { inputs = ys; jobs = builds_from p ys 0 order }) ≡ true in
    subst Q (sym narrowed.is)
    (and_from _ _ (le-leb (length left) 32 (omega (arith, length_narrowed narrowed.may 0 inputs, length_cut ds order top 0 p.inputs, r.few_inputs)))
    (and_from _ _ fewer.inputs
    (and_from _ _ (eq-eqb (length (builds_from p left 0 order)) (jobs_after 0 left) (length_builds p left 0 order ∙ sym (fewer.jobs ∙ so.jobs)))
    (subst P (sym (fewer.scopes ∙ so.scopes)) (builds_left p rules left 0 order (order_within ds p rules))))))
