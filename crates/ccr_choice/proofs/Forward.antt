-- Reading goes from the first line to the last: what is read of a front of lines doesn't change with what follows.
use Rattle.std.proofs.Common.{◌≡◌, ℕ, zero, suc, ◌+◌, ◌<◌, ◌≤◌, ◌⊎◌, inl, inr, List, [], ◌∷◌, ◌++◌, length, Option, Some, None, Result, Ok, Err, refl, sym, ap, ◌∙◌, arith, length-append}
use Rattle.std.proofs.lemmas.List.{append-nil}
use Rattle.ccr_choice.specs.declared.word.Word.{Word}
use Rattle.ccr_choice.specs.Text.{unended}
use Rattle.ccr_choice.specs.Reading.{◌>>=◌, or_broken, one_line, next_many}
use Rattle.ccr_choice.proofs.Keeps.{bind_ok}

abbrev pub Reader : Type 0 → Type 0 → Type 0
Reader A E = List (List Word) → Result (A × List (List Word)) E

-- the reader wants a line behind this front
pub record IsWanting {A E : Type 0} (miss : ℕ → E) (at : Reader A E) (front : List (List Word)) : Type 0 where
  pub here : at front ≡ Err (miss 0)
  pub open_line : (rest : List (List Word)) → at (front ++ unended ∷ rest) ≡ Err (miss (suc (length rest)))
  pub behind : (rest : List (List Word)) (m : ℕ) → at (front ++ rest) ≡ Err (miss m) → m ≤ length rest
  pub after : (rest : List (List Word)) (x : A) (r : List (List Word)) → at (front ++ rest) ≡ Ok (x, r) → length r < length rest

-- What a reader does with a front of lines, whatever follows: it takes so many of them, or stops for another reason than a line, or
-- wants a line more, or one of them is bad, with k lines of the front behind it.
pub data Reach {A E : Type 0} (miss : ℕ → E) (at : Reader A E) (front : List (List Word)) : Type 0 where
  took : (x : A) (q : List (List Word)) → length q ≤ length front → ((rest : List (List Word)) → at (front ++ rest) ≡ Ok (x, q ++ rest)) → Reach miss at front
  halted : (e : E) → ((k : ℕ) → e ≡ miss k → ⊥) → ((rest : List (List Word)) → at (front ++ rest) ≡ Err e) → Reach miss at front
  wants : IsWanting miss at front → Reach miss at front
  broke : (k : ℕ) → k < length front → ((rest : List (List Word)) → at (front ++ rest) ≡ Err (miss (suc (length rest + k)))) → Reach miss at front

abbrev pub IsForward : {A E : Type 0} → (ℕ → E) → Reader A E → Type 0
IsForward miss at = (front : List (List Word)) → Reach miss at front

-- a bad line is one of the lines, and what is left is other_than more than there was
pub within_err : {A E : Type 0} (miss : ℕ → E) (at : Reader A E) → Reach miss at [] → (ls : List (List Word)) (m : ℕ) → at ls ≡ Err (miss m) → m ≤ length ls
within_err miss at (took x q le h) ls m e = absurd (cc (h ls, e))
within_err miss at (halted e other_than h) ls m f = absurd (other_than m (cc (h ls, f)))
within_err miss at (wants w) ls m e = w.behind ls m e
within_err miss at (broke k l h) ls m e = absurd (omega (arith, l))

pub within_ok : {A E : Type 0} (miss : ℕ → E) (at : Reader A E) → Reach miss at [] → (ls : List (List Word)) (y : A) (r : List (List Word)) → at ls ≡ Ok (y, r) → length r ≤ length ls
within_ok {A} {E} miss at (took x q le h) ls y r e =
    let same : ◌≡◌ {A = A × List (List Word)} (x, q ++ ls) (y, r) = cc (h ls, e) in
    let left : q ++ ls ≡ r = ap (λ z. z.1) same in
    omega (arith, le, ap length left, length-append q ls)
within_ok miss at (halted e other_than h) ls y r f = absurd (cc (h ls, f))
within_ok miss at (wants w) ls y r e = omega (arith, w.after ls y r e)
within_ok miss at (broke k l h) ls y r e = absurd (omega (arith, l))

pub bind_err : {A B E : Type 0} (r : Result A E) (f : A → Result B E) (e : E) → (r >>= f) ≡ Err e → (r ≡ Err e) ⊎ ((x : A) × (r ≡ Ok x) × (f x ≡ Err e))
bind_err (Ok x) f e h = inr (x, refl, h)
bind_err (Err d) f e h = let same : d ≡ e = cc (h) in inl (ap Err same)

-- one reader behind the other
module _ {A B E : Type 0} (miss : ℕ → E) (first : Reader A E) (second : A → Reader B E) (s : (x : A) → IsForward miss (second x)) where
  abbrev both : Reader B E
  both ls = first ls >>= λ y. second y.0 y.1

  behind_took : (front q : List (List Word)) → length q ≤ length front → (x : A) → ((rest : List (List Word)) → both (front ++ rest) ≡ second x (q ++ rest)) → Reach miss (second x) q → Reach miss both front
  behind_took front q few x t (took y p le h) = took y p (omega (arith, le, few)) (λ rest. t rest ∙ h rest)
  behind_took front q few x t (halted e other_than h) = halted e other_than (λ rest. t rest ∙ h rest)
  behind_took front q few x t (broke k l h) = broke k (omega (arith, l, few)) (λ rest. t rest ∙ h rest)
  behind_took front q few x t (wants w) = wants (record {
    here = ap both (sym (append-nil front)) ∙ t [] ∙ ap (second x) (append-nil q) ∙ w.here;
    open_line = λ rest. t (unended ∷ rest) ∙ w.open_line rest;
    behind = λ rest m e. w.behind rest m (sym (t rest) ∙ e);
    after = λ rest y r e. w.after rest y r (sym (t rest) ∙ e);
  })

  wants_both : (front : List (List Word)) → IsWanting miss first front → IsWanting miss both front
  wants_both front w = record {
    here = ap (λ r. r >>= λ y. second y.0 y.1) w.here;
    open_line = λ rest. ap (λ r. r >>= λ y. second y.0 y.1) (w.open_line rest);
    behind = λ rest m e. elim (bind_err (first (front ++ rest)) (λ y. second y.0 y.1) (miss m) e) [
      | inl h ↦ w.behind rest m h
      | inr h ↦ (let few = within_err miss (second h.0.0) (s h.0.0 []) h.0.1 m h.2 in omega (arith, few, w.after rest h.0.0 h.0.1 h.1))
    ];
    after = λ rest z r e. (let b = bind_ok (first (front ++ rest)) (λ y. second y.0 y.1) (z, r) e in
        let few = within_ok miss (second b.0.0) (s b.0.0 []) b.0.1 z r b.2 in omega (arith, few, w.after rest b.0.0 b.0.1 b.1));
  }

  bind_reach : (front : List (List Word)) → Reach miss first front → Reach miss both front
  bind_reach front (took x q le h) = behind_took front q le x (λ rest. ap (λ r. r >>= λ y. second y.0 y.1) (h rest)) (s x q)
  bind_reach front (halted e other_than h) = halted e other_than (λ rest. ap (λ r. r >>= λ y. second y.0 y.1) (h rest))
  bind_reach front (wants w) = wants (wants_both front w)
  bind_reach front (broke k l h) = broke k l (λ rest. ap (λ r. r >>= λ y. second y.0 y.1) (h rest))

  pub forward_bind : IsForward miss first → IsForward miss (λ ls. first ls >>= λ y. second y.0 y.1)
  forward_bind f front = bind_reach front (f front)

-- nothing is read
pub forward_done : {A E : Type 0} (miss : ℕ → E) (x : A) → IsForward miss (λ ls. Ok (x, ls))
forward_done miss x front = took x front (omega arith) (λ rest. refl)

-- the same reader
pub forward_same : {A E : Type 0} (miss : ℕ → E) (at other : Reader A E) → ((ls : List (List Word)) → at ls ≡ other ls) → IsForward miss other → IsForward miss at
forward_same {A} {E} miss at other same f front = go (f front)
  where
    go : Reach miss other front → Reach miss at front
    go (took x q le h) = took x q le (λ rest. same (front ++ rest) ∙ h rest)
    go (halted e other_than h) = halted e other_than (λ rest. same (front ++ rest) ∙ h rest)
    go (broke k l h) = broke k l (λ rest. same (front ++ rest) ∙ h rest)
    go (wants w) = wants (record {
      here = same front ∙ w.here;
      open_line = λ rest. same (front ++ unended ∷ rest) ∙ w.open_line rest;
      behind = λ rest m e. w.behind rest m (sym (same (front ++ rest)) ∙ e);
      after = λ rest x r e. w.after rest x r (sym (same (front ++ rest)) ∙ e);
    })

-- one line, of which the rule takes none that isn't ended
module _ {A : Type 0} (rule : List Word → Option A) (never : rule unended ≡ None) where
  abbrev one_after : List (List Word) → Option A → Result (A × List (List Word)) ℕ
  one_after ls o = or_broken ls o >>= λ x. Ok (x, ls)

  one_err : (ls : List (List Word)) (o : Option A) (m : ℕ) → one_after ls o ≡ Err m → m ≡ suc (length ls)
  one_err ls None m e = cc
  one_err ls (Some x) m e = absurd (cc (e))

  one_ok : (ls : List (List Word)) (o : Option A) (y : A) (r : List (List Word)) → one_after ls o ≡ Ok (y, r) → ls ≡ r
  one_ok ls None y r e = absurd (cc (e))
  one_ok ls (Some x) y r e = let same : ◌≡◌ {A = A × List (List Word)} (x, ls) (y, r) = cc (e) in ap (λ z. z.1) same

  line_err : (ls : List (List Word)) (m : ℕ) → one_line rule ls ≡ Err m → m ≤ length ls
  line_err [] m e = let none : 0 ≡ m = cc (e) in omega (arith, none)
  line_err (l ∷ ls) m e = omega (arith, one_err ls (rule l) m e)

  line_ok : (ls : List (List Word)) (y : A) (r : List (List Word)) → one_line rule ls ≡ Ok (y, r) → length r < length ls
  line_ok [] y r e = absurd (cc (e))
  line_ok (l ∷ ls) y r e = omega (arith, ap length (one_ok ls (rule l) y r e))

  pub forward_line : IsForward (λ k. k) (one_line rule)
  forward_line [] = wants (record {
    here = refl;
    open_line = λ rest. ap (λ o. or_broken rest o >>= λ x. Ok (x, rest)) never;
    behind = line_err;
    after = line_ok;
  })
  forward_line (l ∷ q) = says (rule l) refl
    where
      says : (o : Option A) → rule l ≡ o → Reach (λ k. k) (one_line rule) (l ∷ q)
      says None e = broke (length q) (omega arith) (λ rest.
          ap (λ o. or_broken (q ++ rest) o >>= λ x. Ok (x, q ++ rest)) e
          ∙ ap (λ n. Err (suc n)) (let many = length-append q rest in let same : length (q ++ rest) ≡ length rest + length q = omega (arith, many) in same))
      says (Some x) e = took x q (omega arith) (λ rest. ap (λ o. or_broken (q ++ rest) o >>= λ x. Ok (x, q ++ rest)) e)

-- so many things
pub forward_many : {S A : Type 0} (item : S → Reader A ℕ) (next : S → A → S) → ((s : S) → IsForward (λ k. k) (item s)) → (n : ℕ) (s : S) → IsForward (λ k. k) (next_many item next n s)
forward_many item next each zero s = forward_done (λ k. k) []
forward_many item next each (suc n) s =
    forward_bind (λ k. k) (item s) (λ x ls. next_many item next n (next s x) ls >>= λ more. Ok (x ∷ more.0, more.1))
    (λ x. forward_bind (λ k. k) (next_many item next n (next s x)) (λ xs ls. Ok (x ∷ xs, ls)) (λ xs. forward_done (λ k. k) (x ∷ xs)) (forward_many item next each n (next s x)))
    (each s)
