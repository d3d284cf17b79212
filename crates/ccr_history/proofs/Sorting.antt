-- Lists that are sorted by inserting one element after another.
use Rattle.std.proofs.Common.{◌≡◌, ◌≢◌, ℕ, ◌+◌, ◌⊎◌, List, [], ◌∷◌, map, get_or, Bool, true, false, ◌||◌, cond, refl, sym, ap, ◌∙◌, subst, inl, inr, ⊎_elim, arith, Ordering, Less, Equal, Greater, is_lt, is_gt, is_eq, nat_cmp, IsPermutation, IsSorted, IsTrue, AllPairs, BTreeSet}
use Rattle.std.specs.List.{AllByRecursion, IsDistinct, list_any}
use Rattle.std.specs.List.Sorted.{IsStrictlySortedBy}
use Rattle.std.specs.Cmp.{IsTotalOrder}
use Rattle.std.specs.Cmp.Lexicographic.{slice_cmp}
use Rattle.std.specs.Ordering.{ordering_reverse, ordering_then, match_ordering, eq_by_cmp}
use Rattle.std.specs.Str.{bytes_eq}
use Rattle.std.proofs.lemmas.Cmp.{nat_cmp_total, nat_list_cmp_total, on_total, then_total, eq_by_cmp_equiv}
use Rattle.std.proofs.lemmas.Bool.{false≢true}
use Rattle.std.proofs.lemmas.Bool.Decides.{nat_tests}
use Rattle.std.proofs.lemmas.Slice.Eq.{bytes_eq-Decides}
use Rattle.std.proofs.lemmas.List.Sorted.{list_any-IsPermutation}
use Rattle.std.proofs.lemmas.Map.Keys.{IsDistinct-head, IsDistinct-tail, IsDistinct-from_apart, IsDistinct-IsPermutation, apart_from_distinct, sorted_from_all_adjacent, Less-from_sorted}
use Rattle.std.proofs.lemmas.Map.Lookups.{btree_set_from_contains, exact_bytes, exact_pairs, exact_unsigned}
use Rattle.ccr_history.specs.Builds.{UsedData, with_used, by_input, is_before, with_moved, by_place}
use Rattle.ccr_history.proofs.Lists.{each_weaker, each_map}

-- insert puts an element behind those that it comes after
record IsInsertion {X : Type 0} (cmp : X → X → Ordering) (insert : X → List X → List X) : Type 0 where
  none : (x : X) → insert x [] ≡ x ∷ []
  more : (x y : X) (ys : List X) → ((is_gt (cmp x y) ≡ false) × (insert x (y ∷ ys) ≡ x ∷ y ∷ ys))
      ⊎ ((is_lt (cmp x y) ≡ false) × (insert x (y ∷ ys) ≡ y ∷ insert x ys))

below : (o : Ordering) → is_gt o ≡ false → is_eq o ≡ false → o ≡ Less
below Less g e = refl
below Equal g e = absurd (cc)
below Greater g e = absurd (cc)

above : (o : Ordering) → is_lt o ≡ false → is_eq o ≡ false → ordering_reverse o ≡ Less
above Less l e = absurd (cc)
above Equal l e = absurd (cc)
above Greater l e = refl

module _ {X : Type 0} (cmp : X → X → Ordering) (total : IsTotalOrder cmp) (insert : X → List X → List X) (inserts : IsInsertion cmp insert) where
  all-insert : (P : X → Type 0) (x : X) (ys : List X) → P x → AllByRecursion P ys → AllByRecursion P (insert x ys)
  all-insert P x [] h all = subst (AllByRecursion P) (sym (inserts.none x)) (h, tt)
  all-insert P x (y ∷ ys) h all =
      ⊎_elim (λ m. subst (AllByRecursion P) (sym m.1) (h, all))
      (λ m. subst (AllByRecursion P) (sym m.1) (all.0, all-insert P x ys h all.1))
      (inserts.more x y ys)

  any-insert : (t : X → Bool) (x : X) (ys : List X) → list_any t (insert x ys) ≡ list_any t (x ∷ ys)
  any-insert t x [] = ap (list_any t) (inserts.none x)
  any-insert t x (y ∷ ys) =
      ⊎_elim (λ m. ap (list_any t) m.1)
      (λ m. ap (list_any t) m.1 ∙ ap (λ b. t y || b) (any-insert t x ys) ∙ turned (t y) (t x) (list_any t ys))
      (inserts.more x y ys)
    where
      turned : (a b c : Bool) → (a || (b || c)) ≡ (b || (a || c))
      turned true true c = refl
      turned true false c = refl
      turned false b c = refl

  rises-insert : (x : X) (ys : List X) → AllByRecursion (λ y. is_eq (cmp x y) ≡ false) ys → IsStrictlySortedBy cmp ys → IsStrictlySortedBy cmp (insert x ys)
  unfolding IsStrictlySortedBy
  rises-insert x [] apart up = subst (IsStrictlySortedBy cmp) (sym (inserts.none x)) (tt, tt)
  rises-insert x (y ∷ ys) apart up =
      ⊎_elim
      (λ m.
      let first : cmp x y ≡ Less = below (cmp x y) m.0 apart.0 in
      let rest = each_weaker (λ z. cmp y z ≡ Less) (λ z. cmp x z ≡ Less) (λ z h. total.trans x y z first h) ys up.0 in
      subst (IsStrictlySortedBy cmp) (sym m.1) ((first, rest), up))
      (λ m.
      let first : cmp y x ≡ Less = total.antisymm y x ∙ above (cmp x y) m.0 apart.0 in
      subst (IsStrictlySortedBy cmp) (sym m.1) (all-insert (λ z. cmp y z ≡ Less) x ys first up.0, rises-insert x ys apart.1 up.1))
      (inserts.more x y ys)

  module _ (sort : List X → List X) (empty : sort [] ≡ []) (next : (x : X) (xs : List X) → sort (x ∷ xs) ≡ insert x (sort xs)) where
    all-sort : (P : X → Type 0) (xs : List X) → AllByRecursion P xs → AllByRecursion P (sort xs)
    all-sort P [] all = subst (AllByRecursion P) (sym empty) tt
    all-sort P (x ∷ xs) all = subst (AllByRecursion P) (sym (next x xs)) (all-insert P x (sort xs) all.0 (all-sort P xs all.1))

    any-sort : (t : X → Bool) (xs : List X) → list_any t (sort xs) ≡ list_any t xs
    any-sort t [] = ap (list_any t) empty
    any-sort t (x ∷ xs) = ap (list_any t) (next x xs) ∙ any-insert t x (sort xs) ∙ ap (λ b. t x || b) (any-sort t xs)

    rises-sort : (xs : List X) → IsDistinct (eq_by_cmp cmp) xs → IsStrictlySortedBy cmp (sort xs)
    unfolding IsStrictlySortedBy
    rises-sort [] apart = subst (IsStrictlySortedBy cmp) (sym empty) tt
    rises-sort (x ∷ xs) apart =
        subst (IsStrictlySortedBy cmp) (sym (next x xs))
        (rises-insert x (sort xs) (all-sort (λ y. is_eq (cmp x y) ≡ false) xs (IsDistinct-head (eq_by_cmp cmp) x xs apart))
        (rises-sort xs (IsDistinct-tail (eq_by_cmp cmp) x xs apart)))

    -- a sorted list with the elements of xs is xs sorted
    sorted-is : ((x y : X) → cmp x y ≡ Equal → x ≡ y) → (d : X) (xs ys : List X) → IsDistinct (eq_by_cmp cmp) xs → IsPermutation xs ys → IsSorted cmp ys → ys ≡ sort xs
    sorted-is exact d xs ys apart same sorted =
        let apart_ys = IsDistinct-IsPermutation (eq_by_cmp cmp) (eq_by_cmp_equiv total).symm xs ys same apart in
        let up : IsStrictlySortedBy cmp ys =
        sorted_from_all_adjacent total ys d (λ k h. below _ (turned _ _ (total.antisymm (get_or ys k d) (get_or ys (k + 1) d)) (sorted k d (omega arith) h)) (apart_from_distinct (eq_by_cmp cmp) ys k (k + 1) d apart_ys (omega arith) h)) in
        let one : BTreeSet X = record { keys = ys } in
        let other : BTreeSet X = record { keys = sort xs } in
        btree_set_from_contains total one other up (rises-sort xs apart)
        (λ q. sym (list_any-IsPermutation (λ k. is_eq (cmp q k)) xs ys same) ∙ sym (any-sort (λ k. is_eq (cmp q k)) xs)) exact
      where
        turned : (a b : Ordering) → a ≡ ordering_reverse b → is_lt b ≡ false → is_gt a ≡ false
        turned a Less e h = absurd (cc)
        turned a Equal e h = ap is_gt e
        turned a Greater e h = ap is_gt e

rises-map : {X Y : Type 0} (cmp : Y → Y → Ordering) (f : X → Y) (xs : List X) → IsStrictlySortedBy (λ x y. cmp (f x) (f y)) xs → IsStrictlySortedBy cmp (map f xs)
unfolding IsStrictlySortedBy
rises-map cmp f [] up = tt
rises-map cmp f (x ∷ xs) up = (each_map (λ z. cmp (f x) (f z) ≡ Less) (λ y. cmp (f x) y ≡ Less) f (λ z h. h) xs up.0, rises-map cmp f xs up.1)

-- ---- used places by input name
abbrev input_cmp : UsedData → UsedData → Ordering
input_cmp u v = slice_cmp nat_cmp u.input v.input

with_used_inserts : IsInsertion input_cmp with_used
with_used_inserts = record { none = λ u. refl; more = λ u v vs. by u v vs (input_cmp u v) refl }
  where
    by : (u v : UsedData) (vs : List UsedData) (o : Ordering) → input_cmp u v ≡ o
        → ((is_gt (input_cmp u v) ≡ false) × (with_used u (v ∷ vs) ≡ u ∷ v ∷ vs)) ⊎ ((is_lt (input_cmp u v) ≡ false) × (with_used u (v ∷ vs) ≡ v ∷ with_used u vs))
    by u v vs Less e = inl (ap is_gt e, ap (λ o. match_ordering o (u ∷ v ∷ vs) (u ∷ v ∷ vs) (v ∷ with_used u vs)) e)
    by u v vs Equal e = inl (ap is_gt e, ap (λ o. match_ordering o (u ∷ v ∷ vs) (u ∷ v ∷ vs) (v ∷ with_used u vs)) e)
    by u v vs Greater e = inr (ap is_lt e, ap (λ o. match_ordering o (u ∷ v ∷ vs) (u ∷ v ∷ vs) (v ∷ with_used u vs)) e)

input_total : IsTotalOrder input_cmp
input_total = on_total (λ u. u.input) nat_list_cmp_total

distinct_inputs : (used : List UsedData) → AllPairs (λ u v. bytes_eq u.input v.input ≡ false) used → IsDistinct (eq_by_cmp input_cmp) used
distinct_inputs used apart =
    IsDistinct-from_apart (eq_by_cmp input_cmp) used
    (λ i j d lt h. different (get_or used i d) (get_or used j d) (apart i j d lt h) (input_cmp (get_or used i d) (get_or used j d)) refl)
  where
    different : (u v : UsedData) → bytes_eq u.input v.input ≡ false → (o : Ordering) → input_cmp u v ≡ o → is_eq (input_cmp u v) ≡ false
    different u v apart Less e = ap is_eq e
    different u v apart Equal e =
        absurd (false≢true (sym apart ∙ (bytes_eq-Decides u.input v.input).1 (exact_bytes u.input v.input e)))
    different u v apart Greater e = ap is_eq e

pub rises-by_input : (used : List UsedData) → AllPairs (λ u v. bytes_eq u.input v.input ≡ false) used → IsStrictlySortedBy (slice_cmp nat_cmp) (map (λ u. u.input) (by_input used))
rises-by_input used apart =
    rises-map (slice_cmp nat_cmp) (λ u. u.input) (by_input used)
    (rises-sort input_cmp input_total with_used with_used_inserts by_input refl (λ _ _. refl) used (distinct_inputs used apart))

-- ---- pairs by scope and place
abbrev pub place_cmp : ℕ × ℕ → ℕ × ℕ → Ordering
place_cmp p q = ordering_then (nat_cmp p.0 q.0) (nat_cmp p.1 q.1)

pub before_is : (p q : ℕ × ℕ) → is_before p q ≡ is_lt (place_cmp p q)
before_is p q = grind (arith, nat_tests)

with_moved_inserts : IsInsertion place_cmp with_moved
with_moved_inserts = record { none = λ p. refl; more = λ p q qs. by p q qs (is_before p q) refl }
  where
    not_gt : (o : Ordering) → is_lt o ≡ true → is_gt o ≡ false
    not_gt Less e = refl
    not_gt Equal e = refl
    not_gt Greater e = absurd (cc)

    by : (p q : ℕ × ℕ) (qs : List (ℕ × ℕ)) (b : Bool) → is_before p q ≡ b
        → ((is_gt (place_cmp p q) ≡ false) × (with_moved p (q ∷ qs) ≡ p ∷ q ∷ qs)) ⊎ ((is_lt (place_cmp p q) ≡ false) × (with_moved p (q ∷ qs) ≡ q ∷ with_moved p qs))
    by p q qs true e = inl (not_gt _ (sym (before_is p q) ∙ e), ap (λ b. cond b (p ∷ q ∷ qs) (q ∷ with_moved p qs)) e)
    by p q qs false e = inr (sym (before_is p q) ∙ e, ap (λ b. cond b (p ∷ q ∷ qs) (q ∷ with_moved p qs)) e)

pub place_total : IsTotalOrder place_cmp
place_total = then_total (on_total (λ (p : ℕ × ℕ). p.0) nat_cmp_total) (on_total (λ (p : ℕ × ℕ). p.1) nat_cmp_total)

pub place_exact : (p q : ℕ × ℕ) → place_cmp p q ≡ Equal → p ≡ q
place_exact = exact_pairs nat_cmp nat_cmp exact_unsigned exact_unsigned

distinct_pairs : (pairs : List (ℕ × ℕ)) → AllPairs (λ p q. p ≢ q) pairs → IsDistinct (eq_by_cmp place_cmp) pairs
distinct_pairs pairs apart =
    IsDistinct-from_apart (eq_by_cmp place_cmp) pairs
    (λ i j d lt h. different (get_or pairs i d) (get_or pairs j d) (apart i j d lt h) (place_cmp (get_or pairs i d) (get_or pairs j d)) refl)
  where
    different : (p q : ℕ × ℕ) → p ≢ q → (o : Ordering) → place_cmp p q ≡ o → is_eq (place_cmp p q) ≡ false
    different p q apart Less e = ap is_eq e
    different p q apart Equal e = absurd (apart (place_exact p q e))
    different p q apart Greater e = ap is_eq e

-- what a sort gives
pub sorted-by_place : (pairs sorted : List (ℕ × ℕ)) → AllPairs (λ p q. p ≢ q) pairs → IsPermutation pairs sorted → IsSorted place_cmp sorted → sorted ≡ by_place pairs
sorted-by_place pairs sorted apart same up =
    sorted-is place_cmp place_total with_moved with_moved_inserts by_place refl (λ _ _. refl) place_exact (0, 0) pairs sorted (distinct_pairs pairs apart) same up

pub rises-by_place : (pairs : List (ℕ × ℕ)) → AllPairs (λ p q. p ≢ q) pairs → AllPairs (λ p q. IsTrue (is_before p q)) (by_place pairs)
rises-by_place pairs apart i j d lt h =
    before_is (get_or (by_place pairs) i d) (get_or (by_place pairs) j d)
    ∙ ap is_lt (Less-from_sorted place_cmp (by_place pairs) i j d
    (rises-sort place_cmp place_total with_moved with_moved_inserts by_place refl (λ _ _. refl) pairs (distinct_pairs pairs apart)) lt h)
