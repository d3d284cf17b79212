-- A list without repeats grows by what it doesn't have.
use Rattle.std.proofs.Common.{◌≡◌, ◌≢◌, ◌↔◌, ℕ, ◌+◌, ◌<◌, ◌≤◌, inl, inr, Bool, true, false, not, cond, nat_eq, List, [], ◌∷◌, ◌++◌, length, length-append, slice_index, refl, sym, ap, ◌∙◌, subst, arith}
use Rattle.std.specs.Prelude.{Contains}
use Rattle.std.proofs.lemmas.Bool.{cases_lt, cases_eq, cases_Bool, cond-true, cond-false, eqb-true, eq-eqb, ne_eqb}
use Rattle.std.proofs.lemmas.List.{get_or_default, get_or_append_left}
use Rattle.std.proofs.lemmas.List.Elements.{Contains-append_left, Contains-append_right}
use Rattle.ccr_choice.proofs.Members.{contains_first}
use Rattle.ccr_resolve.specs.Sought.{AreDistinct}

last_one : (list : List ℕ) (x : ℕ) → slice_index (list ++ x ∷ []) (length list) ≡ x
last_one [] x = refl
last_one (y ∷ list) x = last_one list x

-- what a list with one more contains
grown_has : (list : List ℕ) (x k : ℕ) → Contains (list ++ x ∷ []) k → (k ≢ x) → Contains list k
grown_has list x k h differs =
    elim (cases_lt h.0 (length list)) [
      | inl before ↦ (h.0, before, sym (get_or_append_left list (x ∷ []) k h.0 before) ∙ h.2)
      | inr last ↦ (let here : h.0 ≡ length list = omega (arith, last, h.1, length-append list (x ∷ [])) in
          let zero : slice_index (list ++ x ∷ []) h.0 ≡ k = get_or_default (list ++ x ∷ []) h.0 0 k h.1 ∙ h.2 in
          absurd (differs (sym zero ∙ ap (slice_index (list ++ x ∷ [])) here ∙ last_one list x)))
    ]

pub distinct_none : AreDistinct []
distinct_none a b less within = absurd (omega (arith, within))

pub distinct_grown : (list : List ℕ) (x : ℕ) → AreDistinct list → (Contains list x → ⊥) → AreDistinct (list ++ x ∷ [])
distinct_grown list x distinct new a b less within same =
    let low : a < length list = omega (arith, less, within, length-append list (x ∷ [])) in
    let first : slice_index (list ++ x ∷ []) a ≡ slice_index list a = get_or_append_left list (x ∷ []) 0 a low in
    elim (cases_lt b (length list)) [
      | inl before ↦ distinct a b less before (sym first ∙ same ∙ get_or_append_left list (x ∷ []) 0 b before)
      | inr last ↦ (let here : b ≡ length list = omega (arith, last, within, length-append list (x ∷ [])) in
          let is : slice_index list a ≡ x = sym first ∙ same ∙ ap (slice_index (list ++ x ∷ [])) here ∙ last_one list x in
          new (a, low, get_or_default list a x 0 low ∙ is))
    ]

-- the first n of a list are in another, each once, and what was seen is what the other has
pub record AreOnce (seen : ℕ → Bool) (list : List ℕ) (n : ℕ) (once : List ℕ) : Type 0 where
  pub few : length once ≤ n
  pub distinct : AreDistinct once
  pub told : (q : ℕ) → (seen q ≡ true) ↔ Contains once q
  pub from_list : (q : ℕ) → Contains once q → Contains list q
  pub all : (m : ℕ) → m < n → Contains once (slice_index list m)

pub once_first : (seen : ℕ → Bool) (list : List ℕ) → ((q : ℕ) → seen q ≡ false) → AreOnce seen list 0 []
once_first seen list none = record {
  few = omega arith;
  distinct = distinct_none;
  told = λ q. (λ h. absurd (cc (h, none q)), λ h. absurd (omega (arith, h.1)));
  from_list = λ q h. absurd (omega (arith, h.1));
  all = λ m less. absurd (omega (arith, less));
}

-- one more that was seen
pub once_seen : (seen seen' : ℕ → Bool) (list : List ℕ) (n x : ℕ) (once : List ℕ) → x ≡ slice_index list n → seen x ≡ true → ((q : ℕ) → seen' q ≡ seen q) → AreOnce seen list n once → AreOnce seen' list (n + 1) once
once_seen seen seen' list n x once is was same so = record {
  few = omega (arith, so.few);
  distinct = so.distinct;
  told = λ q. (λ h. (so.told q).0 (sym (same q) ∙ h), λ h. same q ∙ (so.told q).1 h);
  from_list = so.from_list;
  all = λ m less. elim (cases_eq m n) [
    | inl now ↦ (let P : ℕ → Type 0 = λ k. Contains once k in subst P (is ∙ ap (slice_index list) (sym now)) ((so.told x).0 was))
    | inr before ↦ so.all m (omega (arith, less, before))
  ];
}

-- one more that was not
pub once_new : (seen seen' : ℕ → Bool) (list : List ℕ) (n x : ℕ) (once once' : List ℕ) → n < length list → x ≡ slice_index list n → seen x ≡ false → seen' x ≡ true → ((q : ℕ) → q ≢ x → seen' q ≡ seen q)
    → once' ≡ once ++ x ∷ [] → AreOnce seen list n once → AreOnce seen' list (n + 1) once'
once_new seen seen' list n x once once' inside is new now others pushed so =
    let P : List ℕ → Type 0 = λ xs. AreOnce seen' list (n + 1) xs in
    let last : Contains (once ++ x ∷ []) x = Contains-append_right once (x ∷ []) x (contains_first x []) in
    subst P (sym pushed) (record {
      few = omega (arith, so.few, length-append once (x ∷ []));
      distinct = distinct_grown once x so.distinct (λ h. absurd (cc ((so.told x).1 h, new)));
      told = λ q. elim (cases_eq q x) [
        | inl same ↦ (let Q : ℕ → Type 0 = λ y. (seen' y ≡ true) ↔ Contains (once ++ x ∷ []) y in subst Q (sym same) (λ h. last, λ h. now))
        | inr other ↦ (
          λ h. Contains-append_left once (x ∷ []) q ((so.told q).0 (sym (others q other) ∙ h)),
          λ h. others q other ∙ (so.told q).1 (grown_has once x q h other),
        )
      ];
      from_list = λ q h. elim (cases_eq q x) [
        | inl same ↦ (n, inside, get_or_default list n q 0 inside ∙ sym is ∙ sym same)
        | inr other ↦ so.from_list q (grown_has once x q h other)
      ];
      all = λ m less. elim (cases_eq m n) [
        | inl here ↦ (let Q : ℕ → Type 0 = λ k. Contains (once ++ x ∷ []) k in subst Q (is ∙ ap (slice_index list) (sym here)) last)
        | inr before ↦ Contains-append_left once (x ∷ []) (slice_index list m) (so.all m (omega (arith, less, before)))
      ];
    })

-- ---- the same of a set that was given the number
module _ (seen seen' : ℕ → Bool) (list : List ℕ) (n : ℕ) (once : List ℕ) (inside : n < length list) (up : (q : ℕ) → seen' q ≡ cond (nat_eq (slice_index list n) q) true (seen q)) where
  unseen : (b : Bool) → false ≡ not b → b ≡ true
  unseen true e = refl
  unseen false e = absurd (cc (e))

  newly : (b : Bool) → true ≡ not b → b ≡ false
  newly false e = refl
  newly true e = absurd (cc (e))

  pub kept_once : false ≡ not (seen (slice_index list n)) → AreOnce seen list n once → AreOnce seen' list (n + 1) once
  kept_once old so =
      let was = unseen (seen (slice_index list n)) old in
      once_seen seen seen' list n (slice_index list n) once refl was (λ q. elim (cases_Bool (nat_eq (slice_index list n) q)) [
        | inl e ↦ up q ∙ cond-true (nat_eq (slice_index list n) q) true (seen q) e ∙ sym (ap seen (sym (eqb-true (slice_index list n) q e)) ∙ was)
        | inr e ↦ up q ∙ cond-false (nat_eq (slice_index list n) q) true (seen q) e
      ]) so

  pub pushed_once : (once' : List ℕ) → true ≡ not (seen (slice_index list n)) → once' ≡ once ++ slice_index list n ∷ [] → AreOnce seen list n once → AreOnce seen' list (n + 1) once'
  pushed_once once' new pushed so =
      once_new seen seen' list n (slice_index list n) once once' inside refl (newly (seen (slice_index list n)) new)
      (up (slice_index list n) ∙ cond-true (nat_eq (slice_index list n) (slice_index list n)) true (seen (slice_index list n)) (eq-eqb (slice_index list n) (slice_index list n) refl))
      (λ q differs. up q ∙ cond-false (nat_eq (slice_index list n) q) true (seen q) (ne_eqb (slice_index list n) q (λ e. differs (sym e)))) pushed so

pub once_same : (seen : ℕ → Bool) (list : List ℕ) (n : ℕ) (once : List ℕ) → length list ≤ n → AreOnce seen list n once → (k : ℕ) → Contains once k ↔ Contains list k
once_same seen list n once all so k = (
  λ h. so.from_list k h,
  λ h. let P : ℕ → Type 0 = λ q. Contains once q in
      subst P (get_or_default list h.0 0 k h.1 ∙ h.2) (so.all h.0 (omega (arith, h.1, all))),
)
