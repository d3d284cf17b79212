-- The row of a job's build.
use Rattle.std.proofs.Common.{◌≡◌, ℕ, zero, suc, ◌+◌, List, [], ◌∷◌, Bool, true, false, cond, eqb, Some, None, refl, sym, ap, ◌∙◌, arith}
use Rattle.std.proofs.lemmas.Bool.{cond-true, cond-false}
use Rattle.std.proofs.lemmas.Bool.Decides.{nat_tests}
use Rattle.std.proofs.lemmas.Option.{same_Some}
use Rattle.ccr_history.specs.Text.{Text}
use Rattle.ccr_history.specs.Builds.{BuildData, is_build_of, build_of}
use Rattle.ccr_history.specs.Edits.{row_of}
use Rattle.ccr_history.specs.Orderly.{IsOnly}

next_row : (i n : ℕ) → i + 1 ≡ n → suc i + 1 ≡ cond (eqb n 0) 0 (n + 1)
next_row i n e = grind (arith, nat_tests)

-- the row of the only build of a number is one more than its position
pub row_only : (job : Text) (number : ℕ) (bs : List BuildData) (i : ℕ) → IsOnly (is_build_of job number) bs i → i + 1 ≡ row_of job number bs
row_only job number [] i only = absurd (let found = only.here in cc)
row_only job number (b ∷ bs) zero only =
    let same : b ≡ only.it = same_Some b only.it only.here in
    sym (cond-true (is_build_of job number b) 1 (cond (eqb (row_of job number bs) 0) 0 (row_of job number bs + 1)) (ap (is_build_of job number) same ∙ only.passes))
row_only job number (b ∷ bs) (suc i) only =
    let later = row_only job number bs i (record { it = only.it; here = only.here; passes = only.passes; others = λ j c at apart. only.others (suc j) c at (λ e. apart (omega arith)) }) in
    next_row i (row_of job number bs) later
    ∙ sym (cond-false (is_build_of job number b) 1 (cond (eqb (row_of job number bs) 0) 0 (row_of job number bs + 1)) (only.others 0 b refl (λ e. absurd (omega arith))))

-- a build that isn't there has no row
pub row_none : (job : Text) (number : ℕ) (bs : List BuildData) → build_of job number bs ≡ None → 0 ≡ row_of job number bs
row_none job number [] none = refl
row_none job number (b ∷ bs) none = by (is_build_of job number b) none (λ later. row_none job number bs later)
  where
    by : (t : Bool) → cond t (Some b) (build_of job number bs) ≡ None → (build_of job number bs ≡ None → 0 ≡ row_of job number bs)
        → 0 ≡ cond t 1 (cond (eqb (row_of job number bs) 0) 0 (row_of job number bs + 1))
    by true none next = absurd (cc)
    by false none next = ap (λ n. cond (eqb n 0) 0 (n + 1)) (next none)
