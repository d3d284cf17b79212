-- How many builds a job has, as a history changes.
use Rattle.std.proofs.Common.{◌≡◌, ℕ, ◌+◌, ◌<◌, ◌≤◌, Bool, true, false, cond, List, [], ◌∷◌, ◌++◌, Some, None, refl, sym, ap, ◌∙◌, subst, arith}
use Rattle.std.specs.List.{AllByRecursion}
use Rattle.std.proofs.lemmas.List.Sums.{sum_by-cons}
use Rattle.std.proofs.lemmas.Slice.Eq.{bytes_eq-Decides}
use Rattle.ccr_history.specs.declared.build.Status.{Status}
use Rattle.ccr_history.specs.Text.{Text}
use Rattle.ccr_history.specs.Builds.{UsedData, BuildData, is_of, is_build_of, count_of, new_build, ended as ended_build, with_build, with_end}
use Rattle.ccr_history.specs.Changes.{EditData, text, versions, build, ended, pin_set, pin_cleared, disabled, enabled, edited, changed}
use Rattle.ccr_history.specs.History.{HistoryData}
use Rattle.ccr_core.specs.State.{RunningData, is_run_of, running_at}
use Rattle.ccr_core.proofs.RunningLists.{id_same}

pub count_cons : (j : Text) (b : BuildData) (bs : List BuildData) → count_of j (b ∷ bs) ≡ cond (is_of j b) 1 0 + count_of j bs
count_cons j b bs = sum_by-cons (λ x. cond (is_of j x) 1 0) b bs

-- a build more
pub count_more : (j : Text) (bs : List BuildData) (b : BuildData) → count_of j (bs ++ b ∷ []) ≡ count_of j bs + cond (is_of j b) 1 0
count_more j [] b = count_cons j b [] ∙ omega arith
count_more j (x ∷ bs) b =
    let first = count_cons j x (bs ++ b ∷ []) in
    let rest = count_more j bs b in
    let whole = count_cons j x bs in
    omega (arith, first, rest, whole)

module _ (j job : Text) (n : ℕ) (st : Status) (mv : List (ℕ × ℕ)) where
  end_by : (b : BuildData) (t : Bool) (bs : List BuildData) → count_of j (with_end job n st mv bs) ≡ count_of j bs → count_of j (cond t (ended_build st mv b) b ∷ with_end job n st mv bs) ≡ count_of j (b ∷ bs)
  end_by b true bs e = count_cons j (ended_build st mv b) (with_end job n st mv bs) ∙ ap (λ k. cond (is_of j b) 1 0 + k) e ∙ sym (count_cons j b bs)
  end_by b false bs e = count_cons j b (with_end job n st mv bs) ∙ ap (λ k. cond (is_of j b) 1 0 + k) e ∙ sym (count_cons j b bs)

  -- a build ends
  pub count_end : (bs : List BuildData) → count_of j (with_end job n st mv bs) ≡ count_of j bs
  count_end [] = refl
  count_end (b ∷ bs) = end_by b (is_build_of job n b) bs (count_end bs)

-- a new build is one more of its job
pub count_new : (j : Text) (used : List UsedData) (bs : List BuildData) → count_of j (with_build j used bs) ≡ count_of j bs + 1
count_new j used bs =
    let b = new_build j (count_of j bs + 1) used in
    count_more j bs b ∙ ap (λ t. count_of j bs + cond t 1 0) ((bytes_eq-Decides j j).1 refl)

-- builds are never forgotten
pub count_edited : (j : Text) (e : EditData) (h : HistoryData) → count_of j h.builds ≤ count_of j (edited e h).builds
count_edited j (text t) h = omega arith
count_edited j (versions scope vs) h = omega arith
count_edited j (build job used) h =
    let e = count_more j h.builds (new_build job (count_of job h.builds + 1) used) in
    omega (arith, e)
count_edited j (ended job n st mv) h = let e = count_end j job n st mv h.builds in omega (arith, e)
count_edited j (pin_set resource p) h = omega arith
count_edited j (pin_cleared resource) h = omega arith
count_edited j (disabled scope place) h = omega arith
count_edited j (enabled scope place) h = omega arith

pub count_changed : (j : Text) (es : List EditData) (h : HistoryData) → count_of j h.builds ≤ count_of j (changed es h).builds
count_changed j [] h = omega arith
count_changed j (e ∷ es) h =
    let first = count_edited j e h in
    let rest = count_changed j es (edited e h) in
    omega (arith, first, rest)

-- a new number is none that runs
pub fresh : (builds : List BuildData) (j : Text) (n : ℕ) → count_of j builds < n → (bs : List RunningData) → AllByRecursion (λ b. b.number ≤ count_of b.job builds) bs → running_at j n bs ≡ None
fresh builds j n lt [] h = refl
fresh builds j n lt (b ∷ bs) h = by (is_run_of j n b) refl (fresh builds j n lt bs h.1)
  where
    by : (t : Bool) → is_run_of j n b ≡ t → running_at j n bs ≡ None → running_at j n (b ∷ bs) ≡ None
    by false is more = ap (λ t. cond t (Some b) (running_at j n bs)) is ∙ more
    by true is more =
        let (p, q) = id_same j b.job n b.number is in
        let le : n ≤ count_of j builds = subst (λ y. y ≤ count_of j builds) (sym q) (subst (λ y. b.number ≤ count_of y builds) (sym p) h.0) in
        absurd (omega (arith, le, lt))
