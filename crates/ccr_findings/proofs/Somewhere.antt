-- Where a variable stands in a text.
use Rattle.std.specs.Prelude.{◌≡◌, ℕ, List, [], ◌∷◌, ◌++◌, Bool, true, false, not, ◌&&◌, ◌||◌, ◌==◌, drop, Decides, IsTrue, if◌then◌else◌}
use Rattle.std.specs.List.{list_all}
use Rattle.std.proofs.Common.{refl, sym, subst, ap, inl, inr, ◌∙◌}
use Rattle.std.proofs.lemmas.Bool.{or_cases, eqb-true, cases_Bool}
use Rattle.ccr_findings.specs.Vars.{is_letter, is_free, is_variable_name, HasVariable, last_byte, front_letters, behind_letters, is_doubled, begins_named, begins_variable, has_variable_behind, has_variable}

both : (p q : Bool) → (p && q) ≡ true → (p ≡ true) × (q ≡ true)
both true q h = (refl, h)
both false q h = cc

two : (p q : Bool) → p ≡ true → q ≡ true → (p && q) ≡ true
two p q h k = rw (h, k) refl

or_right : (p q : Bool) → q ≡ true → (p || q) ≡ true
or_right true q h = refl
or_right false q h = h

or_left : (p q : Bool) → p ≡ true → (p || q) ≡ true
or_left p q h = rw h refl

-- ---- the letters at the front of a text, and what is behind them
letters_all : (s : List ℕ) → list_all is_letter (front_letters s) ≡ true
letters_all [] = refl
letters_all (c ∷ cs) = elim (cases_Bool (is_letter c)) [
  | inl e ↦ subst (λ b. list_all is_letter (if b then c ∷ front_letters cs else []) ≡ true) (sym e) (two (is_letter c) _ e (letters_all cs))
  | inr e ↦ subst (λ b. list_all is_letter (if b then c ∷ front_letters cs else []) ≡ true) (sym e) refl
]

letters_whole : (s : List ℕ) → s ≡ front_letters s ++ behind_letters s
letters_whole [] = refl
letters_whole (c ∷ cs) = elim (is_letter c)
    as (λ b. c ∷ cs ≡ (if b then c ∷ front_letters cs else []) ++ (if b then behind_letters cs else c ∷ cs)) [
      | true ↦ ap (λ l. c ∷ l) (letters_whole cs)
      | false ↦ refl
    ]

front_name : (name after : List ℕ) → list_all is_letter name ≡ true → front_letters (name ++ (41 ∷ 41 ∷ after)) ≡ name
front_name [] after h = refl
front_name (c ∷ cs) after h =
    let it = both (is_letter c) (list_all is_letter cs) h in
    subst (λ b. (if b then c ∷ front_letters (cs ++ (41 ∷ 41 ∷ after)) else []) ≡ c ∷ cs) (sym it.0)
    (ap (λ l. c ∷ l) (front_name cs after it.1))

behind_name : (name after : List ℕ) → list_all is_letter name ≡ true → behind_letters (name ++ (41 ∷ 41 ∷ after)) ≡ 41 ∷ 41 ∷ after
behind_name [] after h = refl
behind_name (c ∷ cs) after h =
    let it = both (is_letter c) (list_all is_letter cs) h in
    subst (λ b. (if b then behind_letters (cs ++ (41 ∷ 41 ∷ after)) else c ∷ (cs ++ (41 ∷ 41 ∷ after))) ≡ 41 ∷ 41 ∷ after) (sym it.0)
    (behind_name cs after it.1)

doubled : (b : ℕ) (s : List ℕ) → is_doubled b s ≡ true → s ≡ b ∷ b ∷ drop 2 s
doubled b [] h = cc
doubled b (c ∷ []) h = cc
doubled b (c ∷ d ∷ cs) h =
    let it = both (c == b) (d == b) h in
    let one : c ≡ b = eqb-true c b it.0 in
    let other : d ≡ b = eqb-true d b it.1 in cc

-- ---- a variable at the front of a text
abbrev Front : List ℕ → Type 0
Front s = (name : List ℕ) × (after : List ℕ) × IsTrue (is_variable_name name) × (s ≡ 40 ∷ 40 ∷ (name ++ (41 ∷ 41 ∷ after)))

front_found : (s : List ℕ) → begins_variable s ≡ true → Front s
front_found s h =
    let it = both (is_doubled 40 s) (begins_named (drop 2 s)) h in
    let named = both (is_free (front_letters (drop 2 s))) (is_doubled 41 (behind_letters (drop 2 s))) it.1 in
    let after = drop 2 (behind_letters (drop 2 s)) in
    let rest : behind_letters (drop 2 s) ≡ 41 ∷ 41 ∷ after = doubled 41 (behind_letters (drop 2 s)) named.1 in (
      front_letters (drop 2 s),
      after,
      two _ _ named.0 (letters_all (drop 2 s)),
      doubled 40 s it.0 ∙ ap (λ l. 40 ∷ 40 ∷ l) (letters_whole (drop 2 s) ∙ ap (λ l. front_letters (drop 2 s) ++ l) rest),
    )

front_there : (name after : List ℕ) → is_variable_name name ≡ true → begins_variable (40 ∷ 40 ∷ (name ++ (41 ∷ 41 ∷ after))) ≡ true
front_there name after h =
    let it = both (is_free name) (list_all is_letter name) h in
    rw (front_name name after it.1, behind_name name after it.1) (two _ _ it.0 refl)

-- ---- a variable behind a byte
abbrev Behind : ℕ → List ℕ → Type 0
Behind last s =
    (before : List ℕ) × (name : List ℕ) × (after : List ℕ) × IsTrue (not (last_byte last before == 36))
    × IsTrue (is_variable_name name) × (s ≡ before ++ (40 ∷ 40 ∷ (name ++ (41 ∷ 41 ∷ after))))

later : (last c : ℕ) (s : List ℕ) → Behind c s → Behind last (c ∷ s)
later last c s h = (c ∷ h.0, h.1, h.2, h.3, h.4, ap (λ l. c ∷ l) h.5)

found : (last : ℕ) (s : List ℕ) → has_variable_behind last s ≡ true → Behind last s
found last [] h = cc
found last (c ∷ cs) h = elim (or_cases (not (last == 36) && begins_variable (c ∷ cs)) (has_variable_behind c cs) h) [
  | inl p ↦ (let it = both (not (last == 36)) (begins_variable (c ∷ cs)) p in
      let front = front_found (c ∷ cs) it.1 in ([], front.0, front.1, it.0, front.2, front.3))
  | inr q ↦ later last c cs (found c cs q)
]

there : (last : ℕ) (before name after : List ℕ) → not (last_byte last before == 36) ≡ true → is_variable_name name ≡ true
    → has_variable_behind last (before ++ (40 ∷ 40 ∷ (name ++ (41 ∷ 41 ∷ after)))) ≡ true
there last [] name after g h = or_left _ _ (two _ _ g (front_there name after h))
there last (c ∷ before) name after g h = or_right _ _ (there c before name after g h)

pub variable_Decides : (s : List ℕ) → Decides (has_variable s) (HasVariable s)
variable_Decides s = (found 0 s, λ h. subst (λ l. has_variable l ≡ true) (sym h.5) (there 0 h.0 h.1 h.2 h.3 h.4))
