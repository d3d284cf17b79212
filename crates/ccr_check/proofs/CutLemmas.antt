-- Where lines start.
use Rattle.std.proofs.Common.{◌≡◌, ℕ, ◌+◌, ◌-◌, ◌↔◌, inl, inr, List, slice_index, true, ◌==◌, IsTrue, ap, ◌∙◌, refl, sym, arith, eqb-true, eq-eqb}
use Rattle.ccr_check.specs.Cut.{IsLineStart}

-- the first place is the start of a line
pub starts_first : (bs : List ℕ) → IsTrue true ↔ IsLineStart bs 0
starts_first bs = (λ h. inl refl, λ h. refl)

start_behind : (bs : List ℕ) (n b : ℕ) → b ≡ slice_index bs n → (b == 10) ≡ true → IsLineStart bs (n + 1)
start_behind bs n b e h = inr (omega arith, ap (slice_index bs) (less n) ∙ sym e ∙ eqb-true b 10 h)
  where
    less : (n : ℕ) → n + 1 - 1 ≡ n
    less n = omega arith

start_is : (bs : List ℕ) (n b : ℕ) → b ≡ slice_index bs n → IsLineStart bs (n + 1) → (b == 10) ≡ true
start_is bs n b e h = elim h [ inl z ↦ absurd (omega (arith, z)) | inr p ↦ eq-eqb b 10 (e ∙ ap (slice_index bs) (sym (less n)) ∙ p.1) ]
  where
    less : (n : ℕ) → n + 1 - 1 ≡ n
    less n = omega arith

-- a line starts behind a byte exactly where that is a line feed
pub starts_behind : (bs : List ℕ) (n b : ℕ) → b ≡ slice_index bs n → IsTrue (b == 10) ↔ IsLineStart bs (n + 1)
starts_behind bs n b e = (start_behind bs n b e, start_is bs n b e)
