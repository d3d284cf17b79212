-- One more thing that adds a mean.
use Rattle.std.proofs.Common.{◌≡◌, ℕ, ◌+◌, ◌<◌, ◌≤◌, Bool, true, false, ◌&&◌, ◌||◌, List, [], length, get_or, set, take, replicate, cond, eqb, inl, inr, refl, sym, ap, ap₂, ◌∙◌, subst, arith, length-set}
use Rattle.std.specs.List.{list_any}
use Rattle.std.proofs.lemmas.Bool.{cases_eq, cond-true, cond-false, eq-eqb, ne_eqb, or_right}
use Rattle.std.proofs.lemmas.List.{get_or-set_same, get_or-set_other, get_or-replicate, length-replicate, take_all}
use Rattle.std.proofs.lemmas.List.Folds.{list_any_more}
use Rattle.std.proofs.lemmas.List.Sums.{fold_more}
use Rattle.ccr_layout.specs.declared.line.Line.{Line}
use Rattle.ccr_layout.specs.declared.mean.Mean.{Mean}
use Rattle.ccr_layout.specs.Means.{nothing, joined, mean_in, added, AreAdded}

abbrev pub no_line : Line
no_line = record { from = 0; to = 0; offset = 0; trigger = false }

second_false : (p q : Bool) → q ≡ false → (p && q) ≡ false
second_false true q h = h
second_false false q h = refl

-- nothing is added yet
pub added_none : {X : Type 0} (is : X → Bool) (to : X → ℕ) (of : X → Mean) (n : ℕ) → AreAdded is to of [] n (replicate n nothing)
added_none is to of n = record { long = length-replicate n nothing; each = λ k less. get_or-replicate n k nothing nothing less }

-- all of them
pub added_all : {X : Type 0} (is : X → Bool) (to : X → ℕ) (of : X → Mean) (xs : List X) (i n : ℕ) (means : List Mean) → length xs ≤ i → AreAdded is to of (take i xs) n means → AreAdded is to of xs n means
added_all {X} is to of xs i n means past are = let P : List X → Type 0 = λ ys. AreAdded is to of ys n means in subst P (take_all i xs past) are

module _ {X : Type 0} (is : X → Bool) (to : X → ℕ) (of : X → Mean) (xs : List X) (i n : ℕ) (d : X) (means : List Mean) (are : AreAdded is to of (take i xs) n means) (within : i < length xs) where
  step : (k : ℕ) → added is to of k (take (i + 1) xs) ≡ cond (is (get_or xs i d) && eqb (to (get_or xs i d)) k) (joined (added is to of k (take i xs)) (of (get_or xs i d))) (added is to of k (take i xs))
  step k = fold_more (λ m x. cond (is x && eqb (to x) k) (joined m (of x)) m) nothing xs i d within

  -- one that adds nothing
  pub added_same : is (get_or xs i d) ≡ false → AreAdded is to of (take (i + 1) xs) n means
  added_same none = record {
    long = are.long;
    each = λ k less. are.each k less
        ∙ sym (step k ∙ cond-false (is (get_or xs i d) && eqb (to (get_or xs i d)) k) (joined (added is to of k (take i xs)) (of (get_or xs i d))) (added is to of k (take i xs)) (ap (λ b. b && eqb (to (get_or xs i d)) k) none));
  }

  -- one that adds a mean
  pub added_more : is (get_or xs i d) ≡ true → AreAdded is to of (take (i + 1) xs) n (set means (to (get_or xs i d)) (joined (mean_in means (to (get_or xs i d))) (of (get_or xs i d))))
  added_more counts = record {
    long = length-set means (to (get_or xs i d)) (joined (mean_in means (to (get_or xs i d))) (of (get_or xs i d))) ∙ are.long;
    each = each';
  }
    where
      each' : (k : ℕ) → k < n → mean_in (set means (to (get_or xs i d)) (joined (mean_in means (to (get_or xs i d))) (of (get_or xs i d)))) k ≡ added is to of k (take (i + 1) xs)
      each' k less =
          let x = get_or xs i d in
          let v = joined (mean_in means (to x)) (of x) in
          elim (cases_eq (to x) k) [
            | inl same ↦ ap (λ j. get_or (set means (to x) v) j nothing) (sym same) ∙ (get_or-set_same means (to x) v nothing (omega (arith, less, same, are.long))
                ∙ (ap (λ m. joined m (of x)) (ap (mean_in means) same ∙ are.each k less)
                ∙ sym (step k ∙ cond-true (is x && eqb (to x) k) (joined (added is to of k (take i xs)) (of x)) (added is to of k (take i xs)) (ap₂ (λ p q. p && q) counts (eq-eqb (to x) k same)))))
            | inr other ↦ get_or-set_other means (to x) k v nothing (λ e. other (sym e)) ∙ (are.each k less
                ∙ sym (step k ∙ cond-false (is x && eqb (to x) k) (joined (added is to of k (take i xs)) (of x)) (added is to of k (take i xs)) (second_false (is x) (eqb (to x) k) (ne_eqb (to x) k other))))
          ]

-- ---- what is forgotten
-- one more is forgotten
pub cleared_more : (lines : List Line) (i : ℕ) (means old : List Mean) → i < length lines → length means ≡ length old
    → ((k : ℕ) → k < length old → mean_in means k ≡ cond (list_any (λ l. eqb l.to k) (take i lines)) nothing (mean_in old k))
    → (k : ℕ) → k < length old → mean_in (set means (get_or lines i no_line).to nothing) k ≡ cond (list_any (λ l. eqb l.to k) (take (i + 1) lines)) nothing (mean_in old k)
cleared_more lines i means old within long each k less =
    let x = get_or lines i no_line in
    let p = λ (l : Line). eqb l.to k in
    let more = list_any_more p lines i no_line within in
    elim (cases_eq x.to k) [
      | inl same ↦ ap (λ j. get_or (set means x.to nothing) j nothing) (sym same) ∙ (get_or-set_same means x.to nothing nothing (omega (arith, less, same, long))
          ∙ sym (cond-true (list_any p (take (i + 1) lines)) nothing (mean_in old k) (more ∙ or_right (list_any p (take i lines)) (p x) (eq-eqb x.to k same))))
      | inr other ↦ get_or-set_other means x.to k nothing nothing (λ e. other (sym e)) ∙ (each k less
          ∙ ap (λ b. cond b nothing (mean_in old k)) (sym (more ∙ (ap (λ q. list_any p (take i lines) || q) (ne_eqb x.to k other) ∙ or_nothing (list_any p (take i lines))))))
    ]
  where
    or_nothing : (b : Bool) → (b || false) ≡ b
    or_nothing true = refl
    or_nothing false = refl

pub cleared_all : (lines : List Line) (i : ℕ) (means old : List Mean) → length lines ≤ i
    → ((k : ℕ) → k < length old → mean_in means k ≡ cond (list_any (λ l. eqb l.to k) (take i lines)) nothing (mean_in old k))
    → (k : ℕ) → k < length old → mean_in means k ≡ cond (list_any (λ l. eqb l.to k) lines) nothing (mean_in old k)
cleared_all lines i means old past each k less = each k less ∙ ap (λ ls. cond (list_any (λ l. eqb l.to k) ls) nothing (mean_in old k)) (take_all i lines past)
