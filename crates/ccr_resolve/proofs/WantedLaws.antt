-- Which builds can be part of a choice that is better than the one found.
use Rattle.std.proofs.Common.{◌≡◌, ◌≢◌, ◌↔◌, ℕ, ◌+◌, ◌-◌, ◌<◌, ◌≤◌, ◌⊎◌, inl, inr, true, ◌==◌, List, [], ◌∷◌, ◌++◌, length, length-append, All, drop, slice_index, slice_index_or, slice_set, refl, sym, ap, ◌∙◌, subst, arith, Option, Some, None}
use Rattle.std.specs.Prelude.{Contains, Any, MatchOption, unwrap_or, slice_get}
use Rattle.std.proofs.lemmas.Bool.{cases_Bool, cases_lt, cond-true, cond-false, eq-eqb, eqb-true, false≢true}
use Rattle.std.proofs.lemmas.List.{get_or_default, get_or-drop, length-drop}
use Rattle.std.proofs.lemmas.List.Elements.{All-contains, All-append, All-cons, All-nil, Contains-append_left, Contains-append_right}
use Rattle.std.proofs.lemmas.Option.{get_or_from_slice_get}
use Rattle.ccr_choice.specs.Problem.{ProblemValue, BuildValue, is_problem, input_at, builds_at}
use Rattle.ccr_choice.specs.Satisfies.{Satisfies}
use Rattle.ccr_choice.specs.Preference.{Preference, IsOrder, order_of, prefers_after, IsBetter}
use Rattle.ccr_choice.specs.Assignment.{Assignment, Agrees, with_build}
use Rattle.ccr_choice.specs.Possible.{CanHavePassed, IsPossible, IsBestPossible, IsBestPlace}
use Rattle.ccr_choice.specs.Table.{build_of, assigned}
use Rattle.ccr_choice.proofs.Members.{contains_first}
use Rattle.ccr_choice.proofs.Orders.{is_order}
use Rattle.ccr_choice.proofs.TableLaws.{table_set}
use Rattle.ccr_proof.proofs.Sound.{AreKnown, place_possible}
use Rattle.ccr_index.specs.Rows.{no_build, last_with}
use Rattle.ccr_index.proofs.RowLaws.{last_within, last_has, none_newer}
use Rattle.ccr_resolve.specs.Search.{AreUpper}
use Rattle.ccr_resolve.specs.declared.spans.Span.{Span}
use Rattle.ccr_resolve.specs.Sought.{IsRuledOut, AreDistinct, HasAll, HasAllOf, IsInSpan, span_place, AreWanted, AreSources, IsSplit, IsSplitOnce}
use Rattle.ccr_resolve.proofs.Path.{known_of}

-- ---- from a build with a pair to the next older one
pub step_low : (bs : List BuildValue) (pair : ℕ × ℕ) (build next : ℕ) → build < length bs → next ≡ last_with (drop (build + 1) bs) pair → next + (build + 1) ≤ length bs
step_low bs pair build next within e = let low = last_within (drop (build + 1) bs) pair in omega (arith, low, e, length-drop (build + 1) bs, within)

pub step_has : (bs : List BuildValue) (pair : ℕ × ℕ) (build next : ℕ) → build < length bs → next ≡ last_with (drop (build + 1) bs) pair → next ≢ 0
    → Contains (slice_index_or bs (length bs - next) no_build).pairs pair
step_has bs pair build next within e some =
    let low = step_low bs pair build next within e in
    let older : List BuildValue = drop (build + 1) bs in
    let k = length older - next in
    let here : build + 1 + k ≡ length bs - next = omega (arith, low, length-drop (build + 1) bs, within) in
    let fits : k + last_with older pair ≡ length older = omega (arith, low, e, length-drop (build + 1) bs, within) in
    let P : ℕ → Type 0 = λ n. Contains (slice_index_or bs n no_build).pairs pair in
    let Q : BuildValue → Type 0 = λ b. Contains b.pairs pair in
    subst P here (subst Q (get_or-drop (build + 1) bs k no_build) (last_has older pair k no_build (λ z. some (e ∙ z)) fits))

pub step_none : (bs : List BuildValue) (pair : ℕ × ℕ) (build next k : ℕ) → build < length bs → next ≡ last_with (drop (build + 1) bs) pair → build < k → k + next < length bs
    → Contains (slice_index_or bs k no_build).pairs pair → ⊥
step_none bs pair build next k within e beyond less h =
    let older : List BuildValue = drop (build + 1) bs in
    let m = k - (build + 1) in
    let back : build + 1 + m ≡ k = omega (arith, beyond) in
    let P : ℕ → Type 0 = λ n. Contains (slice_index_or bs n no_build).pairs pair in
    let Q : BuildValue → Type 0 = λ b. Contains b.pairs pair in
    none_newer older pair m no_build (omega (arith, less, e, length-drop (build + 1) bs, beyond)) (subst Q (sym (get_or-drop (build + 1) bs m no_build)) (subst P (sym back) h))

-- the builds with a pair that are newer than the last one looked at are in the list
pub record IsWalked (bs : List BuildValue) (pair : ℕ × ℕ) (last : ℕ) (list old : List ℕ) (most : ℕ) : Type 0 where
  pub low : last ≤ length bs
  pub has : last ≢ 0 → Contains (slice_index_or bs (length bs - last) no_build).pairs pair
  pub done : (k : ℕ) → k + last < length bs → Contains (slice_index_or bs k no_build).pairs pair → Contains list k
  pub within : All (λ k. k < length bs) list
  pub few : length list ≤ most
  pub kept : (k : ℕ) → Contains old k → Contains list k

pub walk_first : (bs : List BuildValue) (pair : ℕ × ℕ) (last : ℕ) (list : List ℕ) (most : ℕ) → last ≡ last_with bs pair → All (λ k. k < length bs) list → length list ≤ most → IsWalked bs pair last list list most
walk_first bs pair last list most e within few = record {
  low = (let low = last_within bs pair in omega (arith, low, e));
  has = λ some. last_has bs pair (length bs - last) no_build (λ z. some (e ∙ z)) (let low = last_within bs pair in omega (arith, low, e));
  done = λ k less h. absurd (none_newer bs pair k no_build (omega (arith, less, e)) h);
  within = within;
  few = few;
  kept = λ k h. h;
}

above : (n : ℕ) → n ≢ 0 → 0 < n
above n some = elim (cases_lt 0 n) [ inl less ↦ less | inr none ↦ absurd (some (omega (arith, none))) ]

pub walk_inside : (bs : List BuildValue) (pair : ℕ × ℕ) (last build : ℕ) (list old : List ℕ) (most : ℕ) → IsWalked bs pair last list old most → last ≢ 0 → build ≡ length bs - last → build < length bs
walk_inside bs pair last build list old most so some e = let more = above last some in omega (arith, more, so.low, e)

pub walk_has : (bs : List BuildValue) (pair : ℕ × ℕ) (last build : ℕ) (list old : List ℕ) (most : ℕ) → IsWalked bs pair last list old most → last ≢ 0 → build ≡ length bs - last
    → Contains (slice_index_or bs build no_build).pairs pair
walk_has bs pair last build list old most so some e =
    let P : ℕ → Type 0 = λ n. Contains (slice_index_or bs n no_build).pairs pair in
    subst P (sym e) (so.has some)

pub walk_less : (bs : List BuildValue) (pair : ℕ × ℕ) (last next build : ℕ) (list old : List ℕ) (most : ℕ) → IsWalked bs pair last list old most → last ≢ 0 → build ≡ length bs - last → next ≡ last_with (drop (build + 1) bs) pair → next < last
walk_less bs pair last next build list old most so some e is =
    let low = step_low bs pair build next (walk_inside bs pair last build list old most so some e) is in omega (arith, low, so.low, e)

pub walk_next : (bs : List BuildValue) (pair : ℕ × ℕ) (last next build : ℕ) (list list' old : List ℕ) (most : ℕ) → IsWalked bs pair last list old most → last ≢ 0 → build ≡ length bs - last
    → next ≡ last_with (drop (build + 1) bs) pair → list' ≡ list ++ build ∷ [] → length list < most → IsWalked bs pair next list' old most
walk_next bs pair last next build list list' old most so some e is pushed below =
    let inside = walk_inside bs pair last build list old most so some e in
    let low = step_low bs pair build next inside is in
    let P : List ℕ → Type 0 = λ xs. IsWalked bs pair next xs old most in
    subst P (sym pushed) (record {
      low = omega (arith, low);
      has = step_has bs pair build next inside is;
      done = λ k less h. elim (cases_lt (k + last) (length bs)) [
        | inl old_one ↦ Contains-append_left list (build ∷ []) k (so.done k old_one h)
        | inr reached ↦ elim (cases_lt build k) [
          | inl beyond ↦ absurd (step_none bs pair build next k inside is beyond less h)
          | inr le ↦ (let now : build ≡ k = omega (arith, le, reached, e, so.low) in
              let Q : ℕ → Type 0 = λ n. Contains (list ++ build ∷ []) n in
              subst Q now (Contains-append_right list (build ∷ []) build (contains_first build [])))
        ]
      ];
      within = All-append (λ k. k < length bs) list (build ∷ []) so.within (All-cons (λ k. k < length bs) build [] inside (All-nil (λ k. k < length bs)));
      few = omega (arith, below, length-append list (build ∷ []));
      kept = λ k h. Contains-append_left list (build ∷ []) k (so.kept k h);
    })

pub walk_end : (bs : List BuildValue) (pair : ℕ × ℕ) (last : ℕ) (list old : List ℕ) (most : ℕ) → IsWalked bs pair last list old most → last ≡ 0 → HasAll bs pair list
walk_end bs pair last list old most so e = λ k within h. so.done k (omega (arith, within, e)) h

-- one place of a span after the other
pub span_next : (bs : List BuildValue) (scope : ℕ) (span : Span) (step : ℕ) (list list' : List ℕ) → ((s : ℕ) → s < step → HasAll bs (scope, span_place span s) list) → ((k : ℕ) → Contains list k → Contains list' k)
    → HasAll bs (scope, span_place span step) list' → (s : ℕ) → s < step + 1 → HasAll bs (scope, span_place span s) list'
span_next bs scope span step list list' all kept new s less =
    elim (cases_lt s step) [
      | inl early ↦ (λ k within h. kept k (all s early k within h))
      | inr late ↦ (let now : step ≡ s = omega (arith, late, less) in
          let P : ℕ → Type 0 = λ n. HasAll bs (scope, span_place span n) list' in subst P now new)
    ]

-- the step at which a place stands
step_of : (span : Span) (place : ℕ) → IsInSpan span place → (s : ℕ) × (s < span.to + 1 - span.from) × (span_place span s ≡ place)
step_of span place h =
    elim (cases_Bool span.is_rising) [
      | inl up ↦ (place - span.from, omega (arith, h.0, h.1), cond-true span.is_rising (span.from + (place - span.from)) (span.to - (place - span.from)) up ∙ back span.from place h.0)
      | inr down ↦ (span.to - place, omega (arith, h.0, h.1), cond-false span.is_rising (span.from + (span.to - place)) (span.to - (span.to - place)) down ∙ twice span.to place h.1)
    ]
  where
    back : (from place : ℕ) → from ≤ place → from + (place - from) ≡ place
    back from place le = omega arith

    twice : (to place : ℕ) → place ≤ to → to - (to - place) ≡ place
    twice to place le = omega arith

pub span_end : (bs : List BuildValue) (scope : ℕ) (span : Span) (step : ℕ) (list : List ℕ) → ((s : ℕ) → s < step → HasAll bs (scope, span_place span s) list) → span.to + 1 - span.from ≤ step
    → (place : ℕ) → IsInSpan span place → HasAll bs (scope, place) list
span_end bs scope span step list all last place h =
    let at = step_of span place h in
    let P : ℕ → Type 0 = λ n. HasAll bs (scope, n) list in
    let early : at.0 < step = (let less = at.1 in omega (arith, less, last)) in
    subst P at.2 (all at.0 early)

-- both spans
pub wanted_both : (p : ProblemValue) (job i found best : ℕ) (bs : List BuildValue) (scope : ℕ) (one two : Span) (first list : List ℕ) (after : Option ℕ) (places : List ℕ) (most : ℕ)
    → bs ≡ builds_at p job → scope ≡ (input_at p i).scope → after ≡ (input_at p i).after → places ≡ (input_at p i).places
    → ((place : ℕ) → Contains places place → (prefers_after after found place ≡ true → ⊥) → (prefers_after after place best ≡ true → ⊥) → IsInSpan one place ⊎ IsInSpan two place)
    → ((place : ℕ) → IsInSpan one place → HasAll bs (scope, place) first) → ((k : ℕ) → Contains first k → Contains list k)
    → ((place : ℕ) → IsInSpan two place → HasAll bs (scope, place) list)
    → All (λ k. k < length bs) list → length list ≤ most → most ≤ length bs → AreWanted p job i found best list
wanted_both p job i found best bs scope one two first list after places most e f g h spans in_one kept in_two within few fits =
    let B : List BuildValue → Type 0 = λ xs. All (λ k. k < length xs) list in
    record {
      few = omega (arith, few, fits, ap length e);
      within = subst B e within;
      all = λ place allowed low high.
          let C : List ℕ → Type 0 = λ ys. Contains ys place in
          let H : List BuildValue → ℕ → Type 0 = λ xs s. HasAll xs (s, place) list in
          let here : HasAll bs (scope, place) list = elim (spans place (subst C (sym h) allowed) (λ t. low (ap (λ o. prefers_after o found place) (sym g) ∙ t)) (λ t. high (ap (λ o. prefers_after o place best) (sym g) ∙ t))) [
            | inl a ↦ (λ k inside has. kept k (in_one place a k inside has))
            | inr b ↦ in_two place b
          ] in
          let P : List BuildValue → Type 0 = λ xs. H xs scope in
          let Q : ℕ → Type 0 = λ s. H (builds_at p job) s in
          subst Q f (subst P e here);
    }

-- all builds of a job
pub full_split : (p : ProblemValue) (table : List ℕ) (best : Option (List ℕ)) (job : ℕ) (list : List ℕ) → job < length p.jobs → slice_index table job ≡ 0
    → length list ≡ length (builds_at p job) → ((k : ℕ) → k < length (builds_at p job) → slice_index list k ≡ k) → IsSplitOnce p table best job list
full_split p table best job list inside free long each = record {
  split = full_one p table best job list inside free long each;
  distinct = λ a b less within same. let one = each a (omega (arith, less, within, long)) in let two = each b (omega (arith, within, long)) in omega (arith, less, same, one, two);
}
  where
    full_one : (p : ProblemValue) (table : List ℕ) (best : Option (List ℕ)) (job : ℕ) (list : List ℕ) → job < length p.jobs → slice_index table job ≡ 0
        → length list ≡ length (builds_at p job) → ((k : ℕ) → k < length (builds_at p job) → slice_index list k ≡ k) → IsSplit p table best job list
    full_one p table best job list inside free long each = record {
      inside = inside;
      free = free;
      few = omega (arith, long);
      within = λ k d within. let is = get_or_default list k d 0 within in let at = each k (omega (arith, within, long)) in omega (arith, is, at, within, long);
      left_out = λ k b within got out.
          let here : k < length list = omega (arith, within, long) in
          absurd (out (k, here, get_or_default list k k 0 here ∙ each k within));
    }

-- ---- the places that a better choice can have
no_better_of : (p : ProblemValue) (a : Assignment) (i place upper : ℕ) (o : Option ℕ) → IsBestPossible (order_of p) p a i o → upper ≡ unwrap_or o 0 → IsPossible p a i place → order_of p i place upper ≡ true → ⊥
no_better_of p a i place upper None best e h better = best place h
no_better_of p a i place upper (Some x) best e h better = best.1 place h (ap (order_of p i place) (sym e) ∙ better)

no_better : (p : ProblemValue) (a : Assignment) (i place upper : ℕ) → IsBestPlace (order_of p) p a i upper → IsPossible p a i place → order_of p i place upper ≡ true → ⊥
no_better p a i place upper best h = no_better_of p a i place upper best.0 best.1 best.2 h

reaches : (prefers : Preference) → IsOrder prefers → (places best upper : List ℕ) (i : ℕ) → IsBetter prefers places best → ((y : ℕ) → y < i → slice_index upper y ≡ slice_index best y)
    → ((y : ℕ) → y ≤ i → prefers y (slice_index places y) (slice_index upper y) ≡ true → ⊥) → prefers i (slice_index best i) (slice_index places i) ≡ true → ⊥
reaches prefers order places best upper i h same low worse =
    elim (cases_lt i h.first) [
      | inl before ↦ false≢true (sym (order.irreflexive i (slice_index best i)) ∙ ap (prefers i (slice_index best i)) (sym (h.same_before i before)) ∙ worse)
      | inr reached ↦ elim (cases_lt h.first i) [
        | inl less ↦ low h.first (omega (arith, less)) (ap (prefers h.first (slice_index places h.first)) (same h.first less) ∙ h.preferred)
        | inr at ↦ (let now : h.first ≡ i = omega (arith, reached, at) in
            let P : ℕ → Type 0 = λ n. prefers n (slice_index places n) (slice_index best n) ≡ true in
            false≢true (sym (order.irreflexive i (slice_index best i)) ∙ order.transitive i _ _ _ worse (subst P now h.preferred)))
      ]
    ]

free_none : (p : ProblemValue) (table : List ℕ) (j : ℕ) → slice_index table j ≡ 0 → assigned p table j ≡ None
free_none p table j e = ap (build_of (builds_at p j)) e

-- where a job is free, what agrees with one of its builds fixed agrees without it
agrees_less : (a : Assignment) (j : ℕ) (b : BuildValue) (builds : List ℕ) → a j ≡ None → Agrees (with_build a j b) builds → Agrees a builds
agrees_less a j b builds free agrees k c e =
    elim (cases_Bool (k == j)) [
      | inl same ↦ (let none : a k ≡ None = ap a (eqb-true k j same) ∙ free in absurd (cc (e, none)))
      | inr other ↦ agrees k c (cond-false (k == j) (Some b) (a k) other ∙ e)
    ]

module _ (p : ProblemValue) (rules : is_problem p ≡ true) (table : List ℕ) (i j : ℕ)
    (inside : i < length p.inputs) (named : Contains (input_at p i).jobs j) (free : slice_index table j ≡ 0) (wide : j < length table) where
  known_with : (k : ℕ) (b : BuildValue) → slice_get (builds_at p j) k ≡ Some b → AreKnown (order_of p) (is_order p) p rules (with_build (assigned p table) j b)
  known_with k b got =
      let P : Assignment → Type 0 = λ a. AreKnown (order_of p) (is_order p) p rules a in
      subst P (table_set p table j k b wide got) (known_of (order_of p) (is_order p) p rules (slice_set table j (k + 1)))

  -- a place that is possible with a build of the job is among the build's pairs
  has_pair : (b : BuildValue) (place : ℕ) → IsPossible p (with_build (assigned p table) j b) i place → Contains b.pairs ((input_at p i).scope, place)
  has_pair b place h =
      let pair : ℕ × ℕ = ((input_at p i).scope, place) in
      let is : slice_index (input_at p i).jobs named.0 ≡ j = get_or_default (input_at p i).jobs named.0 0 j named.1 ∙ named.2 in
      let P : ℕ → Type 0 = λ n. CanHavePassed p (with_build (assigned p table) j b) pair n in
      let Q : Option BuildValue → Type 0 = λ o. MatchOption o (Any (λ x. Contains x.pairs pair) (builds_at p j)) (λ x. Contains x.pairs pair) in
      subst Q (cond-true (j == j) (Some b) (assigned p table j) (eq-eqb j j refl)) (subst P is (h.passed named.0 named.1))

  -- what agrees with a build of the free job agrees without it, and then each of its places is possible
  without : (b : BuildValue) (builds : List ℕ) → Agrees (with_build (assigned p table) j b) builds → Agrees (assigned p table) builds
  without b builds agrees = agrees_less (assigned p table) j b builds (free_none p table j free) agrees

  possible : (b : BuildValue) (places builds : List ℕ) → Satisfies p places builds → Agrees (with_build (assigned p table) j b) builds → (y : ℕ) → y < length p.inputs
      → IsPossible p (assigned p table) y (slice_index places y)
  possible b places builds sat agrees y within =
      place_possible (order_of p) (is_order p) p rules (assigned p table) places builds (known_of (order_of p) (is_order p) p rules table) (without b builds agrees) sat y within

  -- the build is in each list that has all builds with the choice's place of the input
  in_list : (k : ℕ) (b : BuildValue) → k < length (builds_at p j) → slice_get (builds_at p j) k ≡ Some b → (places builds list : List ℕ) → Satisfies p places builds
      → Agrees (with_build (assigned p table) j b) builds → HasAll (builds_at p j) ((input_at p i).scope, slice_index places i) list → Contains list k
  in_list k b within got places builds list sat agrees all =
      let can = place_possible (order_of p) (is_order p) p rules (with_build (assigned p table) j b) places builds (known_with k b got) agrees sat i inside in
      let P : BuildValue → Type 0 = λ x. Contains x.pairs ((input_at p i).scope, slice_index places i) in
      all k within (subst P (sym (get_or_from_slice_get (builds_at p j) k b no_build got)) (has_pair b (slice_index places i) can))

  -- few builds have a place from the one found to the best
  module _ (upper best list : List ℕ) (uppers : AreUpper p (assigned p table) upper) (same : (y : ℕ) → y < i → slice_index upper y ≡ slice_index best y)
      (wanted : AreWanted p j i (slice_index best i) (slice_index upper i) list) where
    wanted_out : (k : ℕ) (b : BuildValue) → k < length (builds_at p j) → slice_get (builds_at p j) k ≡ Some b → (Contains list k → ⊥) → IsRuledOut (order_of p) p (Some best) (with_build (assigned p table) j b)
    wanted_out k b within got out = λ places builds sat agrees better.
        let low : (y : ℕ) → y ≤ i → order_of p y (slice_index places y) (slice_index upper y) ≡ true → ⊥ = λ y le.
        no_better p (assigned p table) y (slice_index places y) (slice_index upper y) (uppers y (omega (arith, le, inside))) (possible b places builds sat agrees y (omega (arith, le, inside))) in
        let allowed = (possible b places builds sat agrees i inside).allowed in
        out (in_list k b within got places builds list sat agrees (wanted.all (slice_index places i) allowed (reaches (order_of p) (is_order p) places best upper i better same low) (low i (omega arith))))

    pub wanted_split : j < length p.jobs → IsSplit p table (Some best) j list
    wanted_split within = record { inside = within; free = free; few = wanted.few; within = wanted.within; left_out = wanted_out }

  -- few builds have a place that a fixed build left to the input
  module _ (pairs : List (ℕ × ℕ)) (list : List ℕ) (sources : AreSources p (assigned p table) i pairs) (all : HasAllOf (builds_at p j) (input_at p i).scope pairs list) where
    source_in : (k : ℕ) (b : BuildValue) → k < length (builds_at p j) → slice_get (builds_at p j) k ≡ Some b → (places builds : List ℕ) → Satisfies p places builds
        → Agrees (with_build (assigned p table) j b) builds → Contains list k
    source_in k b within got places builds sat agrees =
        in_list k b within got places builds list sat agrees (all (slice_index places i) (sources (slice_index places i) (possible b places builds sat agrees i inside)))

    source_out : (best : Option (List ℕ)) (k : ℕ) (b : BuildValue) → k < length (builds_at p j) → slice_get (builds_at p j) k ≡ Some b → (Contains list k → ⊥) → IsRuledOut (order_of p) p best (with_build (assigned p table) j b)
    source_out None k b within got out = λ places builds sat agrees. out (source_in k b within got places builds sat agrees)
    source_out (Some found) k b within got out = λ places builds sat agrees better. out (source_in k b within got places builds sat agrees)

    pub source_split : (best : Option (List ℕ)) → j < length p.jobs → length list ≤ length (builds_at p j) → All (λ k. k < length (builds_at p j)) list → IsSplit p table best j list
    source_split best within few inside = record { inside = within; free = free; few = few; within = inside; left_out = source_out best }

-- ---- the builds with one of some pairs
-- the builds with one of the pairs from the k-th on are in the list
pub record ArePairsWalked (bs : List BuildValue) (scope : ℕ) (pairs : List (ℕ × ℕ)) (most k : ℕ) (list : List ℕ) : Type 0 where
  pub within : All (λ n. n < length bs) list
  pub few : length list ≤ most
  pub done : (place m : ℕ) → k ≤ m → m < length pairs → slice_index_or pairs m (0, 0) ≡ (scope, place) → HasAll bs (scope, place) list

pub pairs_next : (bs : List BuildValue) (scope : ℕ) (pairs : List (ℕ × ℕ)) (most k : ℕ) (list list' : List ℕ) → ArePairsWalked bs scope pairs most k list
    → All (λ n. n < length bs) list' → length list' ≤ most → ((n : ℕ) → Contains list n → Contains list' n)
    → ((place : ℕ) → slice_index_or pairs (k - 1) (0, 0) ≡ (scope, place) → HasAll bs (scope, place) list') → ArePairsWalked bs scope pairs most (k - 1) list'
pairs_next bs scope pairs most k list list' so within few kept new = record {
  within = within;
  few = few;
  done = λ place m low inside is.
      elim (cases_lt m k) [
        | inl now ↦ (let at : m ≡ k - 1 = omega (arith, now, low) in
            let P : ℕ → Type 0 = λ n. slice_index_or pairs n (0, 0) ≡ (scope, place) in new place (subst P at is))
        | inr before ↦ (λ n within h. kept n (so.done place m before inside is n within h))
      ];
}

pub pairs_end : (bs : List BuildValue) (scope : ℕ) (pairs : List (ℕ × ℕ)) (most k : ℕ) (list : List ℕ) → ArePairsWalked bs scope pairs most k list → k ≡ 0 → HasAllOf bs scope pairs list
pairs_end bs scope pairs most k list so e place h = so.done place h.0 (omega (arith, e)) h.1 (get_or_default pairs h.0 (0, 0) (scope, place) h.1 ∙ h.2)

-- ---- each build once
pub split_once : (p : ProblemValue) (table : List ℕ) (best : Option (List ℕ)) (job : ℕ) (list once : List ℕ) → length once ≤ length list → AreDistinct once → ((k : ℕ) → Contains once k ↔ Contains list k)
    → IsSplit p table best job list → IsSplitOnce p table best job once
split_once p table best job list once few distinct same so = record {
  split = record {
    inside = so.inside;
    free = so.free;
    few = omega (arith, few, so.few);
    within = λ i d within.
        let x = slice_index_or once i d in
        All-contains (λ k. k < length (builds_at p job)) list x so.within ((same x).0 (i, within, get_or_default once i x d within));
    left_out = λ k b within got out. so.left_out k b within got (λ h. out ((same k).1 h));
  };
  distinct = distinct;
}
