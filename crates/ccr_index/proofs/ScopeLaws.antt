-- The scopes of the inputs that name a job, input by input.
use Rattle.std.proofs.Common.{◌≡◌, ℕ, zero, suc, ◌+◌, ◌<◌, ◌≤◌, List, [], ◌∷◌, length, slice_set, Bool, true, false, cond, inl, inr, refl, sym, ap, ◌∙◌, subst, arith, ◌↔◌, IsTrue}
use Rattle.std.specs.Prelude.{Contains}
use Rattle.std.proofs.lemmas.Bool.{cases_Bool, cases_lt, false≢true}
use Rattle.std.proofs.lemmas.List.{length-set, get_or-set_same, get_or-set_other, get_or_default}
use Rattle.ccr_choice.specs.Problem.{ProblemValue, InputValue, no_input, input_at}
use Rattle.ccr_choice.specs.Dominated.{IsNamedIn}
use Rattle.ccr_index.specs.Alike.{does_count}

-- where nothing counts
abbrev are_false : List Bool → Bool
are_false [] = true
are_false (x ∷ xs) = cond x false (are_false xs)

none_counts : (xs : List Bool) → are_false xs ≡ true → (scope : ℕ) → does_count xs scope ≡ true → ⊥
none_counts [] h scope t = false≢true t
none_counts (x ∷ xs) h zero t = false≢true (ap (λ y. cond y false (are_false xs)) (sym t) ∙ h)
none_counts (x ∷ xs) h (suc scope) t =
    elim (cases_Bool x) [
      | inl e ↦ false≢true (ap (λ y. cond y false (are_false xs)) (sym e) ∙ h)
      | inr e ↦ none_counts xs (ap (λ y. cond y false (are_false xs)) (sym e) ∙ h) scope t
    ]

abbrev no_scopes : List Bool
no_scopes =
    false ∷ false ∷ false ∷ false ∷ false ∷ false ∷ false ∷ false ∷ false ∷ false ∷ false ∷ false ∷ false ∷ false ∷ false ∷ false ∷ false ∷ false ∷ false ∷ false ∷ false ∷ false ∷ false ∷ false ∷ false ∷ false ∷ false ∷ false ∷ false ∷ false ∷ false ∷ false ∷ []

pub none_yet : (scope : ℕ) → does_count no_scopes scope ≡ true → ⊥
none_yet = none_counts no_scopes refl

module _ (p : ProblemValue) (job : ℕ) where
  -- of the inputs before i, those that name the job have scopes that count, and no others do
  abbrev pub AreSeen : ℕ → List Bool → Type 0
  AreSeen i ss =
      (length ss ≡ 32)
      × ((scope : ℕ) → IsTrue (does_count ss scope) → IsNamedIn p job scope)
      × ((k : ℕ) → k < i → Contains (input_at p k).jobs job → IsTrue (does_count ss (input_at p k).scope))

  pub seen_more : (i scope : ℕ) (ss ss' : List Bool) → AreSeen i ss → i < length p.inputs → scope ≡ (input_at p i).scope → scope < 32 → Contains (input_at p i).jobs job
      → ss' ≡ slice_set ss scope true → AreSeen (i + 1) ss'
  seen_more i scope ss ss' so within is low names e =
      let here : does_count (slice_set ss scope true) scope ≡ true = get_or-set_same ss scope true false (omega (arith, low, so.0)) in
      let other : (n : ℕ) → (n ≡ scope → ⊥) → does_count (slice_set ss scope true) n ≡ does_count ss n = λ n ne. get_or-set_other ss scope n true false (λ same. ne (omega (arith, same))) in
      let set : AreSeen (i + 1) (slice_set ss scope true) = (
        length-set ss scope true ∙ so.0,
        λ n t. (let N : ℕ → Type 0 = λ m. IsNamedIn p job m in
            let found : N scope = (i, input_at p i, within, sym (get_or_default p.inputs i no_input (input_at p i) within), (sym is, names)) in
            elim (cases_lt n scope) [
              | inl less ↦ so.1 n (sym (other n (λ same. omega (arith, same, less))) ∙ t)
              | inr le ↦ elim (cases_lt scope n) [
                | inl more ↦ so.1 n (sym (other n (λ same. omega (arith, same, more))) ∙ t)
                | inr ge ↦ (let same : scope ≡ n = omega (arith, le, ge) in subst N same found)
              ]
            ]),
        λ k below named. (let C : ℕ → Type 0 = λ m. does_count (slice_set ss scope true) m ≡ true in
            elim (cases_lt k i) [
              | inl less ↦ (let old = so.2 k less named in
                  let n = (input_at p k).scope in
                  elim (cases_lt n scope) [
                    | inl low_n ↦ other n (λ same. omega (arith, same, low_n)) ∙ old
                    | inr le ↦ elim (cases_lt scope n) [
                      | inl more ↦ other n (λ same. omega (arith, same, more)) ∙ old
                      | inr ge ↦ (let same : scope ≡ n = omega (arith, le, ge) in subst C same here)
                    ]
                  ])
              | inr le ↦ (let now : i ≡ k = omega (arith, below, le) in
                  let D : ℕ → Type 0 = λ m. does_count (slice_set ss scope true) (input_at p m).scope ≡ true in subst D now (subst C is here))
            ]),
      ) in
      let P : List Bool → Type 0 = AreSeen (i + 1) in
      subst P (sym e) set

  pub seen_kept : (i : ℕ) (ss ss' : List Bool) → AreSeen i ss → (Contains (input_at p i).jobs job → ⊥) → ss' ≡ ss → AreSeen (i + 1) ss'
  seen_kept i ss ss' so never e =
      let kept : AreSeen (i + 1) ss = (
        so.0,
        so.1,
        λ k below named. elim (cases_lt k i) [
          | inl less ↦ so.2 k less named
          | inr le ↦ (let now : k ≡ i = omega (arith, below, le) in let D : ℕ → Type 0 = λ m. Contains (input_at p m).jobs job in absurd (never (subst D now named)))
        ],
      ) in
      let P : List Bool → Type 0 = AreSeen (i + 1) in
      subst P (sym e) kept

  pub seen_all : (i : ℕ) (ss : List Bool) → AreSeen i ss → length p.inputs ≤ i → (scope : ℕ) → IsTrue (does_count ss scope) ↔ IsNamedIn p job scope
  seen_all i ss so all scope = (
    so.1 scope,
    λ named.
        let k = named.0 in
        let x = named.1 in
        let is : x ≡ input_at p k = sym (get_or_default p.inputs k no_input x named.2 ∙ named.3) in
        let within = named.2 in
        let J : InputValue → Type 0 = λ z. Contains z.jobs job in
        let C : ℕ → Type 0 = λ m. does_count ss m ≡ true in
        subst C (sym (ap (λ (z : InputValue). z.scope) is) ∙ named.4.0) (so.2 k (omega (arith, within, all)) (subst J is named.4.1)),
  )
