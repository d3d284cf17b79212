-- What an edit leaves of a table, as rows in any order.
use Rattle.std.proofs.Common.{◌≡◌, inl, inr, ℤ, List, [], ◌∷◌, ◌++◌, map, filter, Bool, true, false, not, ◌||◌, cond, Ordering, Less, Equal, Greater, is_eq, true≢false, refl, sym, ap, ap₂, subst, ◌∙◌, IsTrue, IsPermutation}
use Rattle.std.specs.List.{AllByRecursion, list_any}
use Rattle.std.specs.Ordering.{match_ordering, ordering_reverse}
use Rattle.std.proofs.lemmas.Bool.{and_parts}
use Rattle.std.proofs.lemmas.Cmp.{tied_itself}
use Rattle.std.proofs.lemmas.List.Sorted.{IsPermutation-refl, IsPermutation-sym, IsPermutation-cons, IsPermutation-trans, IsPermutation-middle, IsPermutation-append, IsPermutation-map, list_any-IsPermutation, All-permutation}
use Rattle.std.proofs.lemmas.List.Elements.{All-from_recursion, recursion_from_All}
use Rattle.sqlite_value.specs.declared.value.Value.TheVariants.{Int}
use Rattle.sqlite_value.specs.Order.{Row, value_cmp}
use Rattle.sqlite_value.proofs.OrderLemmas.{value_cmp_total}
use Rattle.sqlite_trees.specs.declared.store.Shape.TheVariants.{Table as Shaped}
use Rattle.sqlite_trees.specs.Tree.{rowid, has_rowid, put_row, without_rowid}
use Rattle.sqlite_trees.specs.View.{is_int, IsShaped}
use Rattle.sqlite_trees.proofs.TreeLemmas.{IsShaped-filter, IsShaped-put_row, all-put_row}
use Rattle.sqlite_keyed.proofs.ListLemmas.{all_weaker, all-filter, filter_all, map-map, map_same, filter_same}
use Rattle.sqlite_rules.specs.Edit.{id_in, numbered, without_all, put_all, is_taken, are_fresh, have_rowids}
use Rattle.sqlite_rules.specs.declared.error.Rowids.TheVariants.{Given}
use Rattle.sqlite_rules.specs.Calls.{ids_of}
use Rattle.sqlite_rules.specs.Lists.{Has}
use Rattle.sqlite_rules.proofs.TableLemmas.{int_is}

-- ---- lists

pub not_true : (b : Bool) → not b ≡ true → b ≡ false
not_true true h = absurd (true≢false (sym h))
not_true false h = refl

pub every : {X : Type 0} (P : X → Type 0) → ((x : X) → P x) → (xs : List X) → AllByRecursion P xs
every P each [] = tt
every P each (x ∷ xs) = (each x, every P each xs)

pub all_from_has : {X : Type 0} (P : X → Type 0) (xs : List X) → ((x : X) → Has xs x → P x) → AllByRecursion P xs
all_from_has P [] each = tt
all_from_has P (x ∷ xs) each = (each x (inl refl), all_from_has P xs (λ y there. each y (inr there)))

pub all_both : {X : Type 0} (P Q R : X → Type 0) → ((x : X) → P x → Q x → R x) → (xs : List X) → AllByRecursion P xs → AllByRecursion Q xs → AllByRecursion R xs
all_both P Q R join [] p q = tt
all_both P Q R join (x ∷ xs) p q = (join x p.0 q.0, all_both P Q R join xs p.1 q.1)

pub all_at : {X : Type 0} (P : X → Type 0) (xs : List X) (x : X) → AllByRecursion P xs → Has xs x → P x
all_at P [] x all there = elim there [ ]
all_at P (y ∷ ys) x all (inl same) = subst P (sym same) all.0
all_at P (y ∷ ys) x all (inr there) = all_at P ys x all.1 there

pub all_permuted : {X : Type 0} (P : X → Type 0) (xs ys : List X) → IsPermutation xs ys → AllByRecursion P xs → AllByRecursion P ys
all_permuted P xs ys same all = recursion_from_All P ys (All-permutation P xs ys same (All-from_recursion P xs all))

pub filter_agree : {X : Type 0} (p q : X → Bool) (xs : List X) → AllByRecursion (λ x. p x ≡ q x) xs → filter p xs ≡ filter q xs
filter_agree p q [] same = refl
filter_agree p q (x ∷ xs) same = ap₂ (λ b l. cond b (x ∷ l) l) same.0 (filter_agree p q xs same.1)

pub map_agree : {X Y : Type 0} (f g : X → Y) (xs : List X) → AllByRecursion (λ x. f x ≡ g x) xs → map f xs ≡ map g xs
map_agree f g [] same = refl
map_agree f g (x ∷ xs) same = ap₂ ◌∷◌ same.0 (map_agree f g xs same.1)

filter_twice : {X : Type 0} (p q : X → Bool) (xs : List X) → filter (λ x. not (q x)) (filter (λ x. not (p x)) xs) ≡ filter (λ x. not (p x || q x)) xs
filter_twice p q [] = refl
filter_twice {X} p q (x ∷ xs) =
    let more = filter_twice p q xs in
    let nq : X → Bool = λ y. not (q y) in
    let np : X → Bool = λ y. not (p y) in
    let nb : X → Bool = λ y. not (p y || q y) in
    elim (p x) as (λ b. filter nq (cond (not b) (x ∷ filter np xs) (filter np xs)) ≡ cond (not (b || q x)) (x ∷ filter nb xs) (filter nb xs))
    [ true ↦ more | false ↦ ap (λ l. cond (not (q x)) (x ∷ l) l) more ]

-- rows of which some are changed are those changed, and the others
pub map_some : {X : Type 0} (t : X → Bool) (f : X → X) (xs : List X) → IsPermutation (map (λ x. cond (t x) (f x) x) xs) (map f (filter t xs) ++ filter (λ x. not (t x)) xs)
map_some t f [] = IsPermutation-refl _
map_some {X} t f (x ∷ xs) =
    let more = map_some t f xs in
    let rest = map (λ y. cond (t y) (f y) y) xs in
    let changed = map f (filter t xs) in
    let others = filter (λ y. not (t y)) xs in
    elim (t x) as (λ b. IsPermutation (cond b (f x) x ∷ rest) (map f (cond b (x ∷ filter t xs) (filter t xs)) ++ cond (not b) (x ∷ others) others)) [
      | true ↦ IsPermutation-cons (f x) rest (changed ++ others) more
      | false ↦ IsPermutation-trans _ _ _ (IsPermutation-cons x rest (changed ++ others) more) (IsPermutation-sym _ _ (IsPermutation-middle changed x others))
    ]

-- ---- rows put in

-- a row whose number is free comes in beside the others
pub put_free : (new : Row) (rows : List Row) → is_taken rows new ≡ false → IsPermutation (new ∷ rows) (put_row new rows)
put_free new [] free = IsPermutation-refl _
put_free new (r ∷ rows) free = go (value_cmp (rowid r) (rowid new)) free (put_free new rows)
  where
    go : (o : Ordering) → (is_eq o || is_taken rows new) ≡ false → (is_taken rows new ≡ false → IsPermutation (new ∷ rows) (put_row new rows))
        → IsPermutation (new ∷ r ∷ rows) (match_ordering o (r ∷ put_row new rows) (new ∷ rows) (new ∷ r ∷ rows))
    go Less h more = IsPermutation-trans _ _ _ (IsPermutation-middle (new ∷ []) r rows) (IsPermutation-cons r _ _ (more h))
    go Equal h more = absurd (true≢false h)
    go Greater h more = IsPermutation-refl _

pub put_all_free : (news rows : List Row) → are_fresh rows news ≡ true → IsPermutation (news ++ rows) (put_all rows news)
put_all_free [] rows fresh = IsPermutation-refl _
put_all_free (x ∷ xs) rows fresh =
    let parts = and_parts _ _ fresh in
    let first = put_free x rows (not_true _ parts.0) in
    let turned = IsPermutation-sym _ _ (IsPermutation-middle xs x rows) in
    let beside = IsPermutation-append xs xs (x ∷ rows) (put_row x rows) (IsPermutation-refl xs) first in
    IsPermutation-trans _ _ _ turned (IsPermutation-trans _ _ _ beside (put_all_free xs (put_row x rows) parts.1))

pub put_all_shaped : (news rows : List Row) → have_rowids news ≡ true → IsShaped Shaped rows → IsShaped Shaped (put_all rows news)
put_all_shaped [] rows keyed shaped = shaped
put_all_shaped (x ∷ xs) rows keyed shaped =
    let parts = and_parts _ _ keyed in put_all_shaped xs (put_row x rows) parts.1 (IsShaped-put_row x rows parts.0 shaped)

pub all-put_all : (P : Row → Type 0) (news rows : List Row) → AllByRecursion P news → AllByRecursion P rows → AllByRecursion P (put_all rows news)
all-put_all P [] rows new old = old
all-put_all P (x ∷ xs) rows new old = all-put_all P xs (put_row x rows) new.1 (all-put_row P x rows new.0 old)

pub numbered_given : (xs rows : List Row) → numbered Given rows xs ≡ xs
numbered_given [] rows = refl
numbered_given (x ∷ xs) rows = ap (λ l. x ∷ l) (numbered_given xs (put_row x rows))

-- ---- rows taken out

pub without_all_shaped : (ids : List ℤ) (rows : List Row) → IsShaped Shaped rows → IsShaped Shaped (without_all rows ids)
without_all_shaped [] rows shaped = shaped
without_all_shaped (id ∷ ids) rows shaped = without_all_shaped ids (without_rowid id rows) (IsShaped-filter Shaped (λ r. not (has_rowid id r)) rows shaped)

pub all-without_all : (P : Row → Type 0) (ids : List ℤ) (rows : List Row) → AllByRecursion P rows → AllByRecursion P (without_all rows ids)
all-without_all P [] rows all = all
all-without_all P (id ∷ ids) rows all = all-without_all P ids (without_rowid id rows) (all-filter P (λ r. not (has_rowid id r)) rows all)

without_all_is : (ids : List ℤ) (rows : List Row) → without_all rows ids ≡ filter (λ r. not (list_any (λ id. has_rowid id r) ids)) rows
without_all_is [] rows = sym (filter_all (λ _. true) rows (every _ (λ _. refl) rows))
without_all_is (id ∷ ids) rows = without_all_is ids (without_rowid id rows) ∙ filter_twice (has_rowid id) (λ r. list_any (λ i. has_rowid i r) ids) rows

abbrev number_of : Row → ℤ
number_of r = id_in (rowid r)

-- a later row hasn't the number of an earlier one, nor the other way round
pub apart_up : (x y : Row) → is_int (rowid x) ≡ true → value_cmp (rowid x) (rowid y) ≡ Less → has_rowid (number_of x) y ≡ false
apart_up x y keyed less =
    ap is_eq (ap (value_cmp (rowid y)) (sym (int_is (rowid x) keyed)) ∙ value_cmp_total.antisymm (rowid y) (rowid x) ∙ ap ordering_reverse less)

pub apart_down : (x y : Row) → is_int (rowid y) ≡ true → value_cmp (rowid x) (rowid y) ≡ Less → has_rowid (number_of y) x ≡ false
apart_down x y keyed less = ap is_eq (ap (value_cmp (rowid x)) (sym (int_is (rowid y) keyed)) ∙ less)

pub own_number : (x : Row) → is_int (rowid x) ≡ true → has_rowid (number_of x) x ≡ true
own_number x keyed = ap is_eq (ap (value_cmp (rowid x)) (sym (int_is (rowid x) keyed)) ∙ tied_itself value_cmp_total (rowid x))

none_of : (x : Row) (ys : List Row) → AllByRecursion (λ y. value_cmp (rowid x) (rowid y) ≡ Less) ys → AllByRecursion (λ y. IsTrue (is_int (rowid y))) ys
    → list_any (λ id. has_rowid id x) (map number_of ys) ≡ false
none_of x [] above keyed = refl
none_of x (y ∷ ys) above keyed = ap₂ ◌||◌ (apart_down x y keyed.0 above.0) (none_of x ys above.1 keyed.1)

-- to take out the numbers of some rows is to take out these rows
left_of : (t : Row → Bool) (rows : List Row) → IsShaped Shaped rows → filter (λ r. not (list_any (λ id. has_rowid id r) (map number_of (filter t rows)))) rows ≡ filter (λ r. not (t r)) rows
left_of t [] shaped = refl
left_of t (x ∷ xs) shaped = go (t x) (left_of t xs (shaped.0.1, shaped.1.1))
  where
    go : (b : Bool) → filter (λ r. not (list_any (λ id. has_rowid id r) (map number_of (filter t xs)))) xs ≡ filter (λ r. not (t r)) xs
        → filter (λ r. not (list_any (λ id. has_rowid id r) (map number_of (cond b (x ∷ filter t xs) (filter t xs))))) (x ∷ xs)
        ≡ cond (not b) (x ∷ filter (λ r. not (t r)) xs) (filter (λ r. not (t r)) xs)
    go true more =
        let gone : Row → Bool = λ r. not (has_rowid (number_of x) r || list_any (λ id. has_rowid id r) (map number_of (filter t xs))) in
        let here : gone x ≡ false = ap (λ b. not (b || list_any (λ id. has_rowid id x) (map number_of (filter t xs)))) (own_number x shaped.1.0) in
        let there = filter_agree gone (λ r. not (list_any (λ id. has_rowid id r) (map number_of (filter t xs)))) xs
        (all_weaker _ (λ y. gone y ≡ not (list_any (λ id. has_rowid id y) (map number_of (filter t xs))))
        (λ y less. ap (λ b. not (b || list_any (λ id. has_rowid id y) (map number_of (filter t xs)))) (apart_up x y shaped.1.0 less)) xs shaped.0.0) in
        ap (λ b. cond b (x ∷ filter gone xs) (filter gone xs)) here ∙ there ∙ more
    go false more =
        let stays : Row → Bool = λ r. not (list_any (λ id. has_rowid id r) (map number_of (filter t xs))) in
        let free : stays x ≡ true = ap not (none_of x (filter t xs) (all-filter _ t xs shaped.0.0) (all-filter _ t xs shaped.1.1)) in
        ap (λ b. cond b (x ∷ filter stays xs) (filter stays xs)) free ∙ ap (λ l. x ∷ l) more

pub left_answered : (t : Row → Bool) (g : Row → Row) (rows answered : List Row) → IsShaped Shaped rows → ((r : Row) → rowid (g r) ≡ rowid r) → IsPermutation (map g (filter t rows)) answered
    → without_all rows (ids_of answered) ≡ filter (λ r. not (t r)) rows
left_answered t g rows answered shaped same permuted =
    let ids : map number_of (map g (filter t rows)) ≡ map number_of (filter t rows) = map-map number_of g (filter t rows) ∙ map_same _ number_of (λ r. ap id_in (same r)) (filter t rows) in
    let numbers : IsPermutation (map number_of (filter t rows)) (ids_of answered) = subst (λ l. IsPermutation l (ids_of answered)) ids (IsPermutation-map number_of _ _ permuted) in
    without_all_is (ids_of answered) rows
    ∙ filter_same _ _ (λ r. ap not (sym (list_any-IsPermutation (λ id. has_rowid id r) _ _ numbers))) rows
    ∙ left_of t rows shaped

-- the one row of its number
pub one_only : (n : ℤ) (r0 : Row) (rows : List Row) → IsShaped Shaped rows → Has rows r0 → rowid r0 ≡ Int n → filter (has_rowid n) rows ≡ r0 ∷ []
one_only n r0 [] shaped there is = elim there [ ]
one_only n r0 (x ∷ xs) shaped (inl same) is =
    let id : number_of x ≡ n = ap id_in (ap rowid (sym same) ∙ is) in
    let here : has_rowid n x ≡ true = subst (λ k. has_rowid k x ≡ true) id (own_number x shaped.1.0) in
    let none = filter_agree (has_rowid n) (λ _. false) xs (all_weaker _ (λ y. has_rowid n y ≡ false) (λ y less. subst (λ k. has_rowid k y ≡ false) id (apart_up x y shaped.1.0 less)) xs shaped.0.0) in
    rw here (ap₂ ◌∷◌ (sym same) (none ∙ nothing xs))
  where
    nothing : (ys : List Row) → filter (λ _. false) ys ≡ []
    nothing [] = refl
    nothing (y ∷ ys) = nothing ys
one_only n r0 (x ∷ xs) shaped (inr there) is =
    let less : value_cmp (rowid x) (rowid r0) ≡ Less = all_at _ xs r0 shaped.0.0 there in
    let here : has_rowid n x ≡ false = ap is_eq (ap (value_cmp (rowid x)) (sym is) ∙ less) in
    rw here (one_only n r0 xs (shaped.0.1, shaped.1.1) there is)
