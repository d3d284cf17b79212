-- Reading so many things, one after the other.
use Rattle.std.proofs.Common.{◌≡◌, ℕ, suc, List, [], ◌∷◌, ◌++◌, Result, Ok, Err, ap, ◌∙◌, refl, sym, append_assoc}
use Rattle.ccr_choice.specs.declared.word.Word.{Word}
use Rattle.ccr_choice.specs.Reading.{◌>>=◌, next_many}

-- what was read before, in front of the rest
abbrev pub with_front : {A B E : Type 0} → List A → Result (List A × B) E → Result (List A × B) E
with_front front r = r >>= λ x. Ok (front ++ x.0, x.1)

pub with_front-none : {A B E : Type 0} (r : Result (List A × B) E) → with_front [] r ≡ r
with_front-none (Ok x) = refl
with_front-none (Err e) = refl

with_front-more : {A B E : Type 0} (xs : List A) (y : A) (r : Result (List A × B) E) → with_front xs (r >>= λ x. Ok (y ∷ x.0, x.1)) ≡ with_front (xs ++ y ∷ []) r
with_front-more xs y (Ok x) = ap (λ ys. Ok (ys, x.1)) (sym (append_assoc xs (y ∷ []) x.0))
with_front-more xs y (Err e) = refl

many_ok : {S A : Type 0} (item : S → List (List Word) → Result (A × List (List Word)) ℕ) (next : S → A → S)
    (k : ℕ) (s : S) (front : List A) (ls rest : List (List Word)) (x : A) → item s ls ≡ Ok (x, rest)
    → with_front front (next_many item next (suc k) s ls) ≡ with_front (front ++ x ∷ []) (next_many item next k (next s x) rest)
many_ok item next k s front ls rest x h =
    ap (λ r. with_front front (r >>= λ y. next_many item next k (next s y.0) y.1 >>= λ more. Ok (y.0 ∷ more.0, more.1))) h
    ∙ with_front-more front x (next_many item next k (next s x) rest)

-- nothing is read yet
pub many_start : {S A : Type 0} (item : S → List (List Word) → Result (A × List (List Word)) ℕ) (next : S → A → S)
    (n m : ℕ) (s : S) (front : List A) (ls : List (List Word)) → m ≡ n → front ≡ []
    → with_front front (next_many item next m s ls) ≡ next_many item next n s ls
many_start item next n m s front ls same none =
    ap (λ f. with_front f (next_many item next m s ls)) none ∙ with_front-none (next_many item next m s ls) ∙ ap (λ k. next_many item next k s ls) same

-- one more thing is read
pub many_step : {S A : Type 0} (item : S → List (List Word) → Result (A × List (List Word)) ℕ) (next : S → A → S)
    (n k : ℕ) (s t : S) (front more : List A) (ls rest : List (List Word)) (x : A) (all : Result (List A × List (List Word)) ℕ)
    → n ≡ suc k → item s ls ≡ Ok (x, rest) → more ≡ front ++ x ∷ [] → t ≡ next s x
    → with_front front (next_many item next n s ls) ≡ all → with_front more (next_many item next k t rest) ≡ all
many_step item next n k s t front more ls rest x all same h grown changed whole =
    ap (λ f. with_front f (next_many item next k t rest)) grown
    ∙ ap (λ u. with_front (front ++ x ∷ []) (next_many item next k u rest)) changed
    ∙ sym (many_ok item next k s front ls rest x h)
    ∙ ap (λ m. with_front front (next_many item next m s ls)) (sym same)
    ∙ whole
