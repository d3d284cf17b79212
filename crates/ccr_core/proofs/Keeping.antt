-- Builds of a history: their numbers, and those that run.
use Rattle.std.proofs.Common.{◌≡◌, ◌≢◌, ℕ, zero, suc, ◌+◌, ◌<◌, ◌≤◌, ◌==◌, Bool, true, false, cond, nat_le, ◌&&◌, List, [], ◌∷◌, ◌++◌, take, slice_get, Option, Some, None, bytes_eq, refl, sym, ap, ◌∙◌, subst, arith}
use Rattle.std.specs.List.{AllByRecursion}
use Rattle.std.proofs.lemmas.Bool.{leb-true, leb-false}
use Rattle.std.proofs.lemmas.Slice.Eq.{bytes_eq-Decides}
use Rattle.ccr_history.specs.declared.build.Status.{Status}
use Rattle.ccr_history.specs.Text.{Text}
use Rattle.ccr_history.specs.Builds.{UsedData, BuildData, is_of, is_build_of, count_of, build_of, new_build, ended as ended_build, with_build, with_end}
use Rattle.ccr_history.specs.declared.build.Status.TheVariants.{Running}
use Rattle.ccr_history.specs.Changes.{EditData, text, versions, build, ended, pin_set, pin_cleared, disabled, enabled, edited, changed, IsRunning, Admits, AdmitsAll}
use Rattle.ccr_history.specs.History.{HistoryData, AreNumbered}
use Rattle.ccr_core.proofs.Counting.{count_cons, count_new, count_end}
use Rattle.ccr_core.proofs.RunningLists.{all_weaker, all_append, id_same, id_refl}

-- ---- numbers
-- the number of each of these builds is one that its job has given
abbrev pub AreKnown : List BuildData → List BuildData → Type 0
AreKnown all bs = AllByRecursion (λ c. c.number ≤ count_of c.job all) bs

pub known_more : (all more bs : List BuildData) → ((j : Text) → count_of j all ≤ count_of j more) → AreKnown all bs → AreKnown more bs
known_more all more bs le h = all_weaker (λ c n. let m = le c.job in omega (arith, n, m)) bs h

count_take : (bs : List BuildData) (i : ℕ) (b : BuildData) → slice_get bs i ≡ Some b → count_of b.job (take i bs) + 1 ≤ count_of b.job bs
count_take [] i b e = absurd (cc (e))
count_take (x ∷ bs) zero b e =
    let same : x ≡ b = cc e in
    let first = count_cons b.job x bs in
    let mine : count_of b.job bs + cond (is_of b.job x) 1 0 ≡ count_of b.job bs + 1 = ap (λ y. count_of b.job bs + cond (is_of b.job y) 1 0) same ∙ ap (λ t. count_of b.job bs + cond t 1 0) ((bytes_eq-Decides b.job b.job).1 refl) in
    omega (arith, first, mine)
count_take (x ∷ bs) (suc i) b e =
    let rest = count_take bs i b e in
    let before = count_cons b.job x (take i bs) in
    let whole = count_cons b.job x bs in
    omega (arith, rest, before, whole)

pub all_from_get : {X : Type 0} → (P : X → Type 0) → (xs : List X) → ((i : ℕ) (x : X) → slice_get xs i ≡ Some x → P x) → AllByRecursion P xs
all_from_get P [] h = tt
all_from_get P (x ∷ xs) h = (h zero x refl, all_from_get P xs (λ i y e. h (suc i) y e))

-- in a history each number is
pub known_start : (bs : List BuildData) → AreNumbered bs → AreKnown bs bs
known_start bs numbered = all_from_get (λ c. c.number ≤ count_of c.job bs) bs (λ i c e. let n = numbered i c e in let m = count_take bs i c e in omega (arith, n, m))

-- a number above the count is none's
pub not_there : (all : List BuildData) (j : Text) (n : ℕ) → count_of j all < n → (bs : List BuildData) → AreKnown all bs → build_of j n bs ≡ None
not_there all j n lt [] h = refl
not_there all j n lt (b ∷ bs) h = by (is_build_of j n b) refl (not_there all j n lt bs h.1)
  where
    by : (t : Bool) → is_build_of j n b ≡ t → build_of j n bs ≡ None → cond (is_build_of j n b) (Some b) (build_of j n bs) ≡ None
    by false is more = ap (λ t. cond t (Some b) (build_of j n bs)) is ∙ more
    by true is more =
        let (p, q) = id_same j b.job n b.number is in
        let le : n ≤ count_of j all = subst (λ y. y ≤ count_of j all) (sym q) (subst (λ y. b.number ≤ count_of y all) (sym p) h.0) in
        absurd (omega (arith, le, lt))

pub number_known : (bs : List BuildData) (j : Text) (n : ℕ) → AreKnown bs bs → IsRunning j n bs → n ≤ count_of j bs
number_known bs j n known (c, found, runs) = by (nat_le n (count_of j bs)) refl
  where
    by : (t : Bool) → nat_le n (count_of j bs) ≡ t → n ≤ count_of j bs
    by true e = leb-true n (count_of j bs) e
    by false e = let none = not_there bs j n (leb-false n (count_of j bs) e) bs known in absurd (cc (none, found))

-- ---- look-ups
pub found_there : (j : Text) (n : ℕ) (bs : List BuildData) (x c : BuildData) → build_of j n bs ≡ Some c → build_of j n (bs ++ x ∷ []) ≡ Some c
found_there j n [] x c e = absurd (cc (e))
found_there j n (b ∷ bs) x c e = by (is_build_of j n b) (found_there j n bs x c) e
  where
    by : (t : Bool) → (build_of j n bs ≡ Some c → build_of j n (bs ++ x ∷ []) ≡ Some c) → cond t (Some b) (build_of j n bs) ≡ Some c → cond t (Some b) (build_of j n (bs ++ x ∷ [])) ≡ Some c
    by true more e = e
    by false more e = more e

found_new : (j : Text) (n : ℕ) (bs : List BuildData) (x : BuildData) → is_build_of j n x ≡ true → build_of j n bs ≡ None → build_of j n (bs ++ x ∷ []) ≡ Some x
found_new j n [] x is e = ap (λ t. cond t (Some x) None) is
found_new j n (b ∷ bs) x is e = by (is_build_of j n b) (found_new j n bs x is) e
  where
    by : (t : Bool) → (build_of j n bs ≡ None → build_of j n (bs ++ x ∷ []) ≡ Some x) → cond t (Some b) (build_of j n bs) ≡ None → cond t (Some b) (build_of j n (bs ++ x ∷ [])) ≡ Some x
    by true more e = absurd (cc (e))
    by false more e = more e

module _ (j : Text) (n : ℕ) (job : Text) (number : ℕ) (st : Status) (mv : List (ℕ × ℕ)) (apart : (bytes_eq j job && n == number) ≡ false) where
  other_by : (b : BuildData) (t : Bool) (rest more : Option BuildData) → is_build_of job number b ≡ t → rest ≡ more → cond (is_build_of j n b) (Some (cond t (ended_build st mv b) b)) rest ≡ cond (is_build_of j n b) (Some b) more
  other_by b true rest more is e =
      let (p, q) = id_same job b.job number b.number is in
      let no : is_build_of j n b ≡ false = sym (ap (λ x. bytes_eq j x && n == number) p ∙ ap (λ x. bytes_eq j b.job && n == x) q) ∙ apart in
      ap (λ t. cond t (Some (ended_build st mv b)) rest) no ∙ e ∙ sym (ap (λ t. cond t (Some b) more) no)
  other_by b false rest more is e = ap (λ o. cond (is_build_of j n b) (Some b) o) e

  head_by : (b : BuildData) (bs : List BuildData) (t : Bool) → build_of j n (cond t (ended_build st mv b) b ∷ bs) ≡ cond (is_build_of j n b) (Some (cond t (ended_build st mv b) b)) (build_of j n bs)
  head_by b bs true = refl
  head_by b bs false = refl

  -- the end of another build
  pub found_other : (bs : List BuildData) → build_of j n (with_end job number st mv bs) ≡ build_of j n bs
  found_other [] = refl
  found_other (b ∷ bs) = head_by b (with_end job number st mv bs) (is_build_of job number b) ∙ other_by b (is_build_of job number b) (build_of j n (with_end job number st mv bs)) (build_of j n bs) refl (found_other bs)

-- a new build is found
pub new_found : (j : Text) (used : List UsedData) (bs : List BuildData) → AreKnown bs bs → build_of j (count_of j bs + 1) (with_build j used bs) ≡ Some (new_build j (count_of j bs + 1) used)
new_found j used bs known =
    let n = count_of j bs + 1 in
    let lt : count_of j bs < count_of j bs + 1 = omega arith in
    found_new j n bs (new_build j n used) (id_refl j n) (not_there bs j n lt bs known)

-- ---- the numbers stay given
pub known_new : (j : Text) (used : List UsedData) (bs : List BuildData) → ((i : Text) → count_of i bs ≤ count_of i (with_build j used bs)) → AreKnown bs bs → AreKnown (with_build j used bs) (with_build j used bs)
known_new j used bs le known =
    all_append (λ c. c.number ≤ count_of c.job (with_build j used bs)) bs (new_build j (count_of j bs + 1) used) (known_more bs (with_build j used bs) bs le known)
    (let e = count_new j used bs in omega (arith, e))

module _ (all : List BuildData) (job : Text) (number : ℕ) (st : Status) (mv : List (ℕ × ℕ)) where
  known_by : (b : BuildData) (t : Bool) → b.number ≤ count_of b.job all → (cond t (ended_build st mv b) b).number ≤ count_of (cond t (ended_build st mv b) b).job all
  known_by b true h = h
  known_by b false h = h

  known_ended : (bs : List BuildData) → AreKnown all bs → AreKnown all (with_end job number st mv bs)
  known_ended [] h = tt
  known_ended (b ∷ bs) h = (known_by b (is_build_of job number b) h.0, known_ended bs h.1)

pub known_end : (job : Text) (number : ℕ) (st : Status) (mv : List (ℕ × ℕ)) (bs : List BuildData) → AreKnown bs bs → AreKnown (with_end job number st mv bs) (with_end job number st mv bs)
known_end job number st mv bs known =
    known_more bs (with_end job number st mv bs) (with_end job number st mv bs) (λ j. let e = count_end j job number st mv bs in omega (arith, e)) (known_ended bs job number st mv bs known)

-- ---- what has ended stays as it is
pub ended_stays : (e : EditData) (h : HistoryData) → Admits h e → (j : Text) (n : ℕ) (c : BuildData) → build_of j n h.builds ≡ Some c → c.status ≢ Running → build_of j n (edited e h).builds ≡ Some c
ended_stays (text t) h takes j n c found done = found
ended_stays (versions scope vs) h takes j n c found done = found
ended_stays (build job used) h takes j n c found done = found_there j n h.builds (new_build job (count_of job h.builds + 1) used) c found
ended_stays (ended job number st mv) h takes j n c found done = by (bytes_eq j job && n == number) refl
  where
    by : (t : Bool) → (bytes_eq j job && n == number) ≡ t → build_of j n (with_end job number st mv h.builds) ≡ Some c
    by false apart = found_other j n job number st mv apart h.builds ∙ found
    by true is =
        let (d, at, runs) = takes.0 in
        let (p, q) = id_same j job n number is in
        let both : Some c ≡ Some d = sym found ∙ ap (λ y. build_of y n h.builds) p ∙ ap (λ y. build_of job y h.builds) q ∙ at in
        let same : c ≡ d = cc both in
        absurd (done (ap (λ y. y.status) same ∙ runs))
ended_stays (pin_set resource p) h takes j n c found done = found
ended_stays (pin_cleared resource) h takes j n c found done = found
ended_stays (disabled scope place) h takes j n c found done = found
ended_stays (enabled scope place) h takes j n c found done = found

pub all_stay : (es : List EditData) (h : HistoryData) → AdmitsAll h es → (j : Text) (n : ℕ) (c : BuildData) → build_of j n h.builds ≡ Some c → c.status ≢ Running → build_of j n (changed es h).builds ≡ Some c
all_stay [] h takes j n c found done = found
all_stay (e ∷ es) h takes j n c found done = all_stay es (edited e h) takes.1 j n c (ended_stays e h takes.0 j n c found done) done
