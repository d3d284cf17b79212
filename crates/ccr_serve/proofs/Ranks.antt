-- Ranks of builds in order of making.
use Rattle.std.proofs.Common.{◌≡◌, ℕ, zero, suc, ◌+◌, ◌<◌, ◌≤◌, List, [], ◌∷◌, length, take, slice_get, Bool, true, false, cond, Some, None, refl, sym, ◌∙◌, ap, subst, arith}
use Rattle.std.proofs.lemmas.Slice.Eq.{bytes_eq-Decides}
use Rattle.ccr_history.specs.Text.{Text}
use Rattle.ccr_history.specs.Builds.{BuildData, is_of, is_build_of, count_of, build_of}
use Rattle.ccr_history.specs.History.{AreNumbered}
use Rattle.ccr_history.proofs.Positions.{count_rises}
use Rattle.ccr_core.specs.Positions.{IsMadeAt}
use Rattle.ccr_core.proofs.RunningLists.{id_same}
use Rattle.ccr_serve.specs.Turns.{rank_of}

module _ (job : Text) (number : ℕ) where
  -- the build that is found has the number
  has_number : (bs : List BuildData) (b : BuildData) → build_of job number bs ≡ Some b → is_build_of job number b ≡ true
  has_number [] b e = absurd (cc e)
  has_number (x ∷ bs) b e = by (is_build_of job number x) refl (has_number bs b) e where
    by : (t : Bool) → is_build_of job number x ≡ t → (build_of job number bs ≡ Some b → is_build_of job number b ≡ true)
        → cond t (Some x) (build_of job number bs) ≡ Some b → is_build_of job number b ≡ true
    by true is more e = let same : x ≡ b = cc e in subst (λ y. is_build_of job number y ≡ true) same is
    by false is more e = more e

  -- no build before one of this number has it too
  alone : (bs : List BuildData) → AreNumbered bs → (i k : ℕ) (b c : BuildData) → slice_get bs i ≡ Some b
      → is_build_of job number b ≡ true → k < i → slice_get bs k ≡ Some c → is_build_of job number c ≡ false
  alone bs numbered i k b c at is lt there = by (is_build_of job number c) refl where
    by : (t : Bool) → is_build_of job number c ≡ t → is_build_of job number c ≡ false
    by false e = e
    by true e =
        let (b_job, b_number) = id_same job b.job number b.number is in
        let (c_job, c_number) = id_same job c.job number c.number e in
        let own : number ≡ count_of job (take i bs) + 1 =
        b_number ∙ (numbered i b at ∙ ap (λ j. count_of j (take i bs) + 1) (sym b_job)) in
        let other : number ≡ count_of job (take k bs) + 1 =
        c_number ∙ (numbered k c there ∙ ap (λ j. count_of j (take k bs) + 1) (sym c_job)) in
        let rises : count_of job (take k bs) + 1 ≤ count_of job (take i bs) =
        count_rises (is_of job) bs k i c there ((bytes_eq-Decides job c.job).1 c_job) lt in
        absurd (omega (arith, own, other, rises))

  -- the first build of this number stands at its rank
  first_ranked : (bs : List BuildData) (i : ℕ) (b : BuildData) → slice_get bs i ≡ Some b
      → is_build_of job number b ≡ true
      → ((k : ℕ) (c : BuildData) → k < i → slice_get bs k ≡ Some c → is_build_of job number c ≡ false)
      → rank_of job number bs ≡ i + 1
  first_ranked [] i b at is before = absurd (cc at)
  first_ranked (x ∷ bs) zero b at is before =
      let same : x ≡ b = cc at in
      ap (λ t. cond t 1 (1 + rank_of job number bs)) (ap (is_build_of job number) same ∙ is)
  first_ranked (x ∷ bs) (suc i) b at is before =
      let rest : rank_of job number bs ≡ i + 1 =
      first_ranked bs i b at is (λ k c lt there. before (suc k) c (omega (arith, lt)) there) in
      ap (λ t. cond t 1 (1 + rank_of job number bs)) (before zero x (omega arith) refl) ∙ omega (arith, rest)

  -- the rank of a build that was made counts from 1
  pub made_ranked : (bs : List BuildData) → AreNumbered bs → (i : ℕ) → IsMadeAt bs job number (Some i)
      → rank_of job number bs ≡ i + 1
  made_ranked bs numbered i (b, at, found) =
      let is = has_number bs b found in
      first_ranked bs i b at is (λ k c lt there. alone bs numbered i k b c at is lt there)

  -- where there is no such build, its rank is one past the last
  pub unmade_ranked : (bs : List BuildData) → build_of job number bs ≡ None → rank_of job number bs ≡ length bs + 1
  unmade_ranked [] none = refl
  unmade_ranked (x ∷ bs) none = by (is_build_of job number x) (unmade_ranked bs) none where
    by : (t : Bool) → (build_of job number bs ≡ None → rank_of job number bs ≡ length bs + 1)
        → cond t (Some x) (build_of job number bs) ≡ None
        → cond t 1 (1 + rank_of job number bs) ≡ length (x ∷ bs) + 1
    by true more none = absurd (cc none)
    by false more none = let rest = more none in omega (arith, rest)
