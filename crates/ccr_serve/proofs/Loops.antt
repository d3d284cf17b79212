-- Items of a list, one after another.
use Rattle.std.proofs.Common.{◌≡◌, ◌<◌, ◌+◌, ◌-◌, ◌++◌, ℕ, List, [], ◌∷◌, length, take, drop, get_or, map, replicate, Bool, true, false, refl, sym, ◌∙◌, ap, subst, arith, append_assoc, inl, inr}
use Rattle.std.proofs.lemmas.List.{take_more, map-append, take-append-drop, replicate_more, replicate-append-replicate}
use Rattle.ccr_serve.specs.Items.{World, Item, Done, Serve, Each, IsCut, Items, Then}
use Rattle.ccr_serve.specs.Views.{View, Calls}
use Rattle.ccr_serve.proofs.Composing.{each-append, calls_then, calls_as}

take_all : {A : Type 0} (xs : List A) → take (length xs) xs ≡ xs
take_all [] = refl
take_all (x ∷ xs) = ap (λ ys. x ∷ ys) (take_all xs)

pub take_whole : {A : Type 0} (xs : List A) (n : ℕ) → length xs ≡ n → take n xs ≡ xs
take_whole xs n e = ap (λ k. take k xs) (sym e) ∙ take_all xs

-- what was begun of items was begun of them with others after them
pub cut_longer : (S : Serve) (is js : List Item) (old new : World) → IsCut S is old new → IsCut S (is ++ js) old new
cut_longer S is js old new (inl same) = inl same
cut_longer S [] js old new (inr begun) = absurd begun
cut_longer S (i ∷ is) js old new (inr begun) = inr begun

-- items, and then others, are all of them
pub items_then : (S : Serve) (is js : List Item) (whole : Bool) (old : World) (ds : List Done) (new : World)
    → Then (Items S is) (Items S js) old ds whole new → Items S (is ++ js) old ds whole new
items_then S is js true old ds new h =
    subst (λ es. Each S (is ++ js) old es new) (sym h.joined)
    (each-append S is js old h.mid new h.front h.back h.first h.second)
items_then S is js false old ds new (inl h) = (
  h.0,
  h.1 ++ js,
  ap (λ xs. xs ++ js) h.2 ∙ append_assoc h.0 h.1 js,
  h.3,
  h.4,
  cut_longer S h.1 js h.3 new h.5,
)
items_then S is js false old ds new (inr h) = let b = h.second in (
  is ++ b.0,
  b.1,
  ap (λ xs. is ++ xs) b.2 ∙ sym (append_assoc is b.0 b.1),
  b.3,
  subst (λ es. Each S (is ++ b.0) old es b.3) (sym h.joined)
      (each-append S is b.0 old h.mid b.3 h.front h.back h.first b.4),
  b.5,
)

pub calls_both : (S : Serve) (is js : List Item) {v0 v1 v2 : View} {whole : Bool}
    → Calls (Items S is) v0 true v1 → Calls (Items S js) v1 whole v2 → Calls (Items S (is ++ js)) v0 whole v2
calls_both S is js {v0} {v1} {v2} {whole} a b =
    calls_as (Then (Items S is) (Items S js)) (Items S (is ++ js)) (items_then S is js whole) (calls_then a b)

-- where items are cut short, so are they with others after them
pub calls_cut_before : (S : Serve) (is js : List Item) {v0 v1 : View} → Calls (Items S is) v0 false v1
    → Calls (Items S (is ++ js)) v0 false v1
calls_cut_before S is js a =
    calls_as (Items S is) (Items S (is ++ js)) (λ old ds new h. (
      h.0,
      h.1 ++ js,
      ap (λ xs. xs ++ js) h.2 ∙ append_assoc h.0 h.1 js,
      h.3,
      h.4,
      cut_longer S h.1 js h.3 new h.5,
    )) a

-- ---- an item for each of a list
module _ {A : Type 0} (S : Serve) (f : A → Item) (names : List A) (i : ℕ) (x : A) (lt : i < length names) (is : x ≡ get_or names i x) where
  front_more : map f (take (i + 1) names) ≡ map f (take i names) ++ f x ∷ []
  front_more =
      ap (map f) (take_more names i x lt ∙ ap (λ y. take i names ++ y ∷ []) (sym is))
      ∙ map-append f (take i names) (x ∷ [])

  -- an item more was done
  pub calls_more : {v0 v1 v2 : View} → Calls (Items S (map f (take i names))) v0 true v1
      → Calls (Items S (f x ∷ [])) v1 true v2 → Calls (Items S (map f (take (i + 1) names))) v0 true v2
  calls_more {v0} {v1} {v2} a b =
      subst (λ js. Calls (Items S js) v0 true v2) (sym front_more)
      (calls_both S (map f (take i names)) (f x ∷ []) a b)

  -- the items are cut short by one of them
  pub calls_stop : {v0 v1 v2 : View} → Calls (Items S (map f (take i names))) v0 true v1
      → Calls (Items S (f x ∷ [])) v1 false v2 → Calls (Items S (map f names)) v0 false v2
  calls_stop {v0} {v1} {v2} a b =
      subst (λ js. Calls (Items S js) v0 false v2)
      (sym (ap (map f) (sym (take-append-drop (i + 1) names))
      ∙ (map-append f (take (i + 1) names) (drop (i + 1) names)
      ∙ ap (λ js. js ++ map f (drop (i + 1) names)) front_more)))
      (calls_cut_before S (map f (take i names) ++ f x ∷ []) (map f (drop (i + 1) names))
      (calls_both S (map f (take i names)) (f x ∷ []) a b))

-- ---- the same item so many times
-- one turn more
pub turns_more : (S : Serve) (i : Item) (n : ℕ) {v0 v1 v2 : View} → Calls (Items S (replicate n i)) v0 true v1
    → Calls (Items S (i ∷ [])) v1 true v2 → Calls (Items S (replicate (n + 1) i)) v0 true v2
turns_more S i n {v0} {v1} {v2} a b =
    subst (λ js. Calls (Items S js) v0 true v2) (replicate_more n i) (calls_both S (replicate n i) (i ∷ []) a b)

-- the turns are cut short by one of them
pub turns_stop : (S : Serve) (i : Item) (n count : ℕ) {v0 v1 v2 : View} → n < count
    → Calls (Items S (replicate n i)) v0 true v1 → Calls (Items S (i ∷ [])) v1 false v2
    → Calls (Items S (replicate count i)) v0 false v2
turns_stop S i n count {v0} {v1} {v2} lt a b =
    let e : count ≡ (n + 1) + (count - (n + 1)) = omega arith in
    subst (λ js. Calls (Items S js) v0 false v2)
    (sym (ap (λ k. replicate k i) e
    ∙ (sym (replicate-append-replicate (n + 1) (count - (n + 1)) i)
    ∙ ap (λ js. js ++ replicate (count - (n + 1)) i) (sym (replicate_more n i)))))
    (calls_cut_before S (replicate n i ++ i ∷ []) (replicate (count - (n + 1)) i)
    (calls_both S (replicate n i) (i ∷ []) a b))
