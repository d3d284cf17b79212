-- Pairs in order: one that is looked up, added and removed.
use Rattle.std.proofs.Common.{◌≡◌, ℕ, zero, suc, ◌<◌, ◌≤◌, List, [], ◌∷◌, length, get_or, not, Bool, true, false, cond, ◌||◌, ◌⊎◌, ◌≢◌, Result, Ok, Err, is_ok, IsTrue, is_lt, refl, sym, ap, ◌∙◌, subst, ⊎_elim, arith}
use Rattle.std.specs.Prelude.{⊤}
use Rattle.std.specs.List.{AllByRecursion, insert, remove}
use Rattle.std.specs.List.Sorted.{IsBinarySearchResult, IsSearchInRange, IsNonDecreasingBy}
use Rattle.std.specs.Ordering.{ordering_reverse, ordering_index}
use Rattle.std.proofs.lemmas.Bool.{cond_both, cond-true, cond-false, cases_eq, or_parts}
use Rattle.std.proofs.lemmas.Bool.Decides.{nat_tests}
use Rattle.std.proofs.lemmas.List.Elements.{All-from_recursion, recursion_from_All}
use Rattle.std.proofs.lemmas.List.Kept.{AllPairs-cons}
use Rattle.ccr_history.specs.Builds.{is_before, with_moved}
use Rattle.ccr_history.specs.Pairs.{is_same_pair, has_pair, ArePairs, with_pair, without_pair}
use Rattle.ccr_history.proofs.Lists.{each_weaker, pairs_none, pairs_head, pairs_tail}
use Rattle.ccr_history.proofs.Sorting.{place_cmp, place_total, place_exact, before_is}

-- ---- the order
before_trans : (p q r : ℕ × ℕ) → is_before p q ≡ true → is_before q r ≡ true → is_before p r ≡ true
before_trans p q r = grind (arith, nat_tests)

not_same : (p q : ℕ × ℕ) → is_before p q ≡ true → is_same_pair p q ≡ false
not_same p q = grind (arith, nat_tests)

not_same_back : (p q : ℕ × ℕ) → is_before q p ≡ true → is_same_pair p q ≡ false
not_same_back p q = grind (arith, nat_tests)

not_back : (p q : ℕ × ℕ) → is_before q p ≡ true → is_before p q ≡ false
not_back p q = grind (arith, nat_tests)

else_behind : (p q : ℕ × ℕ) → is_before p q ≡ false → is_same_pair p q ≡ false → is_before q p ≡ true
else_behind p q = grind (arith, nat_tests)

same_itself : (p : ℕ × ℕ) → is_same_pair p p ≡ true
same_itself p = grind (arith, nat_tests)

-- ---- in order, by recursion
abbrev Rises : List (ℕ × ℕ) → Type 0
Rises [] = ⊤
Rises (p ∷ ps) = AllByRecursion (λ q. is_before p q ≡ true) ps × Rises ps

rises : (ps : List (ℕ × ℕ)) → ArePairs ps → Rises ps
rises [] h = tt
rises (p ∷ ps) h =
    (recursion_from_All (λ q. is_before p q ≡ true) ps (pairs_head (λ p q. IsTrue (is_before p q)) p ps h), rises ps (pairs_tail (λ p q. IsTrue (is_before p q)) p ps h))

are_pairs : (ps : List (ℕ × ℕ)) → Rises ps → ArePairs ps
are_pairs [] h = pairs_none (λ p q. IsTrue (is_before p q))
are_pairs (p ∷ ps) h =
    AllPairs-cons (λ p q. IsTrue (is_before p q)) p ps (All-from_recursion (λ q. is_before p q ≡ true) ps h.0) (are_pairs ps h.1)

none_same : (p : ℕ × ℕ) (ps : List (ℕ × ℕ)) → AllByRecursion (λ q. is_same_pair p q ≡ false) ps → has_pair p ps ≡ false
none_same p [] h = refl
none_same p (q ∷ qs) h = ap (λ b. b || has_pair p qs) h.0 ∙ none_same p qs h.1

-- ---- a pair that comes
with_moved-each : (P : ℕ × ℕ → Type 0) (p : ℕ × ℕ) (ps : List (ℕ × ℕ)) → P p → AllByRecursion P ps → AllByRecursion P (with_moved p ps)
with_moved-each P p [] one h = (one, tt)
with_moved-each P p (q ∷ qs) one h =
    cond_both (is_before p q) (p ∷ q ∷ qs) (q ∷ with_moved p qs) (AllByRecursion P) (λ _. (one, h)) (λ _. (h.0, with_moved-each P p qs one h.1))

rises-with_moved : (p : ℕ × ℕ) (ps : List (ℕ × ℕ)) → has_pair p ps ≡ false → Rises ps → Rises (with_moved p ps)
rises-with_moved p [] none up = (tt, tt)
rises-with_moved p (q ∷ qs) none up =
    let parts = or_parts (is_same_pair p q) (has_pair p qs) none in
    cond_both (is_before p q) (p ∷ q ∷ qs) (q ∷ with_moved p qs) Rises
    (λ first. ((first, each_weaker (λ r. is_before q r ≡ true) (λ r. is_before p r ≡ true) (λ r h. before_trans p q r first h) qs up.0), up))
    (λ later. (with_moved-each (λ r. is_before q r ≡ true) p qs (else_behind p q later parts.0) up.0, rises-with_moved p qs parts.1 up.1))

-- with one more, pairs are in order still
pub ordered_with : (p : ℕ × ℕ) (ps : List (ℕ × ℕ)) → ArePairs ps → ArePairs (with_pair p ps)
ordered_with p ps h = by (has_pair p ps) refl
  where
    by : (b : Bool) → has_pair p ps ≡ b → ArePairs (cond b ps (with_moved p ps))
    by true there = h
    by false new = are_pairs (with_moved p ps) (rises-with_moved p ps new (rises ps h))

pub each_with : (P : ℕ × ℕ → Type 0) (p : ℕ × ℕ) (ps : List (ℕ × ℕ)) → P p → AllByRecursion P ps → AllByRecursion P (with_pair p ps)
each_with P p ps one h =
    cond_both (has_pair p ps) ps (with_moved p ps) (AllByRecursion P) (λ _. h) (λ _. with_moved-each P p ps one h)

-- ---- a pair that goes
pub each_without : (P : ℕ × ℕ → Type 0) (p : ℕ × ℕ) (ps : List (ℕ × ℕ)) → AllByRecursion P ps → AllByRecursion P (without_pair p ps)
each_without P p [] h = tt
each_without P p (q ∷ qs) h =
    cond_both (not (is_same_pair p q)) (q ∷ without_pair p qs) (without_pair p qs) (AllByRecursion P)
    (λ _. (h.0, each_without P p qs h.1)) (λ _. each_without P p qs h.1)

rises-without : (p : ℕ × ℕ) (ps : List (ℕ × ℕ)) → Rises ps → Rises (without_pair p ps)
rises-without p [] up = tt
rises-without p (q ∷ qs) up =
    cond_both (not (is_same_pair p q)) (q ∷ without_pair p qs) (without_pair p qs) Rises
    (λ _. (each_without (λ r. is_before q r ≡ true) p qs up.0, rises-without p qs up.1)) (λ _. rises-without p qs up.1)

-- without one, pairs are in order still
pub ordered_without : (p : ℕ × ℕ) (ps : List (ℕ × ℕ)) → ArePairs ps → ArePairs (without_pair p ps)
ordered_without p ps h = are_pairs (without_pair p ps) (rises-without p ps (rises ps h))

without_none : (p : ℕ × ℕ) (ps : List (ℕ × ℕ)) → AllByRecursion (λ q. is_same_pair p q ≡ false) ps → without_pair p ps ≡ ps
without_none p [] h = refl
without_none p (q ∷ qs) h =
    cond-true (not (is_same_pair p q)) (q ∷ without_pair p qs) (without_pair p qs) (ap not h.0) ∙ ap (λ l. q ∷ l) (without_none p qs h.1)

-- ---- the pair at a position
-- the pair is there
at_has : (p : ℕ × ℕ) (ps : List (ℕ × ℕ)) (i : ℕ) → i < length ps → ((d : ℕ × ℕ) → get_or ps i d ≡ p) → has_pair p ps ≡ true
at_has p [] i within at = absurd (omega arith)
at_has p (q ∷ qs) zero within at = ap (λ b. b || has_pair p qs) (ap (is_same_pair p) (at p) ∙ same_itself p)
at_has p (q ∷ qs) (suc i) within at = ap (λ b. is_same_pair p q || b) (at_has p qs i (omega arith) at) ∙ or_true (is_same_pair p q)
  where
    or_true : (b : Bool) → (b || true) ≡ true
    or_true true = refl
    or_true false = refl

before_at : (q p : ℕ × ℕ) (qs : List (ℕ × ℕ)) (i : ℕ) → AllByRecursion (λ r. is_before q r ≡ true) qs → i < length qs → ((d : ℕ × ℕ) → get_or qs i d ≡ p) → is_before q p ≡ true
before_at q p [] i each within at = absurd (omega arith)
before_at q p (r ∷ rs) zero each within at = subst (λ (s : ℕ × ℕ). is_before q s ≡ true) (at p) each.0
before_at q p (r ∷ rs) (suc i) each within at = before_at q p rs i each.1 (omega arith) at

-- the pairs without it are those without what stands there
at_without : (p : ℕ × ℕ) (ps : List (ℕ × ℕ)) (i : ℕ) → Rises ps → i < length ps → ((d : ℕ × ℕ) → get_or ps i d ≡ p) → remove ps i ≡ without_pair p ps
at_without p [] i up within at = absurd (omega arith)
at_without p (q ∷ qs) zero up within at =
    let same : is_same_pair p q ≡ true = ap (is_same_pair p) (at p) ∙ same_itself p in
    let first : AllByRecursion (λ r. is_before p r ≡ true) qs = subst (λ (s : ℕ × ℕ). AllByRecursion (λ r. is_before s r ≡ true) qs) (at p) up.0 in
    sym (cond-false (not (is_same_pair p q)) (q ∷ without_pair p qs) (without_pair p qs) (ap not same)
    ∙ without_none p qs (each_weaker (λ r. is_before p r ≡ true) (λ r. is_same_pair p r ≡ false) (λ r h. not_same p r h) qs first))
at_without p (q ∷ qs) (suc i) up within at =
    let other : is_same_pair p q ≡ false = not_same_back p q (before_at q p qs i up.0 (omega arith) at) in
    ap (λ l. q ∷ l) (at_without p qs i up.1 (omega arith) at)
    ∙ sym (cond-true (not (is_same_pair p q)) (q ∷ without_pair p qs) (without_pair p qs) (ap not other))

-- ---- the position between
-- the pairs below the position come before the pair, and the others behind it
record IsBetween (p : ℕ × ℕ) (ps : List (ℕ × ℕ)) (i : ℕ) : Type 0 where
  below : (k : ℕ) (d : ℕ × ℕ) → k < i → is_before (get_or ps k d) p ≡ true
  above : (k : ℕ) (d : ℕ × ℕ) → i ≤ k → k < length ps → is_before p (get_or ps k d) ≡ true

between_next : (p q : ℕ × ℕ) (qs : List (ℕ × ℕ)) (i : ℕ) → IsBetween p (q ∷ qs) (suc i) → IsBetween p qs i
between_next p q qs i h =
    record { below = λ k d lt. h.below (suc k) d (omega arith); above = λ k d le lt. h.above (suc k) d (omega arith) (omega arith) }

between_none : (p : ℕ × ℕ) (ps : List (ℕ × ℕ)) (i : ℕ) → IsBetween p ps i → AllByRecursion (λ q. is_same_pair p q ≡ false) ps
between_none p [] i h = tt
between_none p (q ∷ qs) zero h =
    (not_same p q (h.above zero q (omega arith) (omega arith)), between_none p qs zero (record { below = λ k d lt. absurd (omega arith); above = λ k d le lt. h.above (suc k) d (omega arith) (omega arith) }))
between_none p (q ∷ qs) (suc i) h = (not_same_back p q (h.below zero q (omega arith)), between_none p qs i (between_next p q qs i h))

between_with : (p : ℕ × ℕ) (ps : List (ℕ × ℕ)) (i : ℕ) → i ≤ length ps → IsBetween p ps i → insert ps i p ≡ with_moved p ps
between_with p [] zero within h = refl
between_with p [] (suc i) within h = absurd (omega arith)
between_with p (q ∷ qs) zero within h = sym (cond-true (is_before p q) (p ∷ q ∷ qs) (q ∷ with_moved p qs) (h.above zero q (omega arith) (omega arith)))
between_with p (q ∷ qs) (suc i) within h =
    ap (λ l. q ∷ l) (between_with p qs i (omega arith) (between_next p q qs i h))
    ∙ sym (cond-false (is_before p q) (p ∷ q ∷ qs) (q ∷ with_moved p qs) (not_back p q (h.below zero q (omega arith))))

-- ---- what a search answers
higher : (p a b : ℕ × ℕ) → is_before a b ≡ true → ordering_index (place_cmp a p) ≤ ordering_index (place_cmp b p)
higher p a b = grind (arith, nat_tests)

not_falling : (p : ℕ × ℕ) (ps : List (ℕ × ℕ)) → ArePairs ps → IsNonDecreasingBy (λ q. ordering_index (place_cmp q p)) ps
not_falling p ps h = λ i j d le within. by i j d le within (cases_eq i j)
  where
    by : (i j : ℕ) (d : ℕ × ℕ) → i ≤ j → j < length ps → (i ≡ j) ⊎ (i ≢ j) → ordering_index (place_cmp (get_or ps i d) p) ≤ ordering_index (place_cmp (get_or ps j d) p)
    by i j d le within same = ⊎_elim
        (λ e. subst (λ (k : ℕ). ordering_index (place_cmp (get_or ps i d) p) ≤ ordering_index (place_cmp (get_or ps k d) p)) e (omega arith))
        (λ n. higher p (get_or ps i d) (get_or ps j d) (h i j d (omega arith) within)) same

between : (p : ℕ × ℕ) (ps : List (ℕ × ℕ)) (i : ℕ) → ArePairs ps → IsBinarySearchResult (λ q. place_cmp q p) ps (Err i) → IsBetween p ps i
between p ps i up h =
    let parted = h (not_falling p ps up) in
    record {
      below = λ k d lt. before_is (get_or ps k d) p ∙ ap is_lt (parted.0 k d (omega arith) lt);
      above = λ k d le lt. before_is p (get_or ps k d) ∙ ap is_lt (place_total.antisymm p (get_or ps k d) ∙ ap ordering_reverse (parted.1 k d le lt));
    }

-- what a search of the pairs that are kept says
module _ (p : ℕ × ℕ) (seen kept : List (ℕ × ℕ)) (same : seen ≡ kept) (up : ArePairs kept) where
  found : (i : ℕ) → i < length seen → IsBinarySearchResult (λ q. place_cmp q p) seen (Ok i) → (i < length kept) × ((d : ℕ × ℕ) → get_or kept i d ≡ p)
  found i within h =
      subst (λ (l : List (ℕ × ℕ)). (i < length l) × ((d : ℕ × ℕ) → get_or l i d ≡ p)) same (within, λ d. place_exact (get_or seen i d) p (h d))

  missed : (i : ℕ) → i ≤ length seen → IsBinarySearchResult (λ q. place_cmp q p) seen (Err i) → (i ≤ length kept) × IsBetween p kept i
  missed i within h =
      let there = subst (λ (l : List (ℕ × ℕ)). (i ≤ length l) × IsBinarySearchResult (λ q. place_cmp q p) l (Err i)) same (within, h) in
      (there.0, between p kept i up there.1)

  -- whether it is there
  pub found_has : (i : ℕ) → i < length seen → IsBinarySearchResult (λ q. place_cmp q p) seen (Ok i) → has_pair p kept ≡ true
  found_has i within h = let it = found i within h in at_has p kept i it.0 it.1

  pub missed_has : (i : ℕ) → i ≤ length seen → IsBinarySearchResult (λ q. place_cmp q p) seen (Err i) → has_pair p kept ≡ false
  missed_has i within h = none_same p kept (between_none p kept i (missed i within h).1)

  pub searched_has : (r : Result ℕ ℕ) → IsSearchInRange r (length seen) → IsBinarySearchResult (λ q. place_cmp q p) seen r → is_ok r ≡ has_pair p kept
  searched_has (Ok i) within h = sym (found_has i within h)
  searched_has (Err i) within h = sym (missed_has i within h)

  -- one that is there is not added, and one that isn't is added where it belongs
  pub found_with : (i : ℕ) → i < length seen → IsBinarySearchResult (λ q. place_cmp q p) seen (Ok i) → kept ≡ with_pair p kept
  found_with i within h = sym (cond-true (has_pair p kept) kept (with_moved p kept) (found_has i within h))

  pub missed_with : (i : ℕ) → i ≤ length seen → IsBinarySearchResult (λ q. place_cmp q p) seen (Err i) → insert kept i p ≡ with_pair p kept
  missed_with i within h =
      let it = missed i within h in
      between_with p kept i it.0 it.1 ∙ sym (cond-false (has_pair p kept) kept (with_moved p kept) (missed_has i within h))

  -- one that is there is removed
  pub found_without : (i : ℕ) → i < length seen → IsBinarySearchResult (λ q. place_cmp q p) seen (Ok i) → remove kept i ≡ without_pair p kept
  found_without i within h = let it = found i within h in at_without p kept i (rises kept up) it.0 it.1

  pub missed_without : (i : ℕ) → i ≤ length seen → IsBinarySearchResult (λ q. place_cmp q p) seen (Err i) → kept ≡ without_pair p kept
  missed_without i within h = sym (without_none p kept (between_none p kept i (missed i within h).1))
