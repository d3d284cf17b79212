-- The successful builds of a job, newest first, keep the rules of a problem.
use Rattle.std.proofs.Common.{◌≡◌, ℕ, ◌+◌, ◌<◌, ◌≤◌, List, [], ◌∷◌, ◌++◌, length, map, reverse, take, Bool, true, false, cond, refl, sym, ap, ◌∙◌, subst, arith, append_assoc, Some}
use Rattle.std.specs.Prelude.{filter, slice_get}
use Rattle.std.specs.List.{AllByRecursion}
use Rattle.std.proofs.lemmas.Bool.{and_from, lt-ltb, le-leb}
use Rattle.std.proofs.lemmas.List.{length-map, length-reverse, reverse-append, append-nil, take_at}
use Rattle.std.proofs.lemmas.List.Elements.{filter-append}
use Rattle.std.proofs.lemmas.List.Sums.{length-filter, count_by-le-length, sum_by_push}
use Rattle.ccr_history.specs.Text.{Text}
use Rattle.ccr_history.specs.Builds.{BuildData, is_of, count_of, is_succeeded, passed_pairs}
use Rattle.ccr_history.specs.History.{HistoryData, IsTable, IsBuild, AreNumbered, IsHistory}
use Rattle.ccr_history.specs.Tables.{TableData}
use Rattle.ccr_choice.specs.Problem.{BuildValue, are_pairs_after, are_builds_below, are_builds}
use Rattle.ccr_problem.specs.Passed.{cut_to, build_value, job_value}
use Rattle.ccr_problem.proofs.Names.{same_text}
use Rattle.ccr_problem.proofs.Pairs.{AreRising, IsPlaced, rising, placed, cut_rises}

pub at_seam : (bs : List BuildData) (x : BuildData) (xs : List BuildData) → slice_get (bs ++ x ∷ xs) (length bs) ≡ Some x
at_seam [] x xs = refl
at_seam (b ∷ bs) x xs = at_seam bs x xs

-- ---- what passed with a build
passed_by : (b : Bool) (scopes : List ℕ) (n : ℕ) (moved : List (ℕ × ℕ)) → AreRising moved → AllByRecursion IsPlaced moved → length scopes ≤ n
    → are_pairs_after n 0 0 (cut_to scopes (cond b moved [])) ≡ true
passed_by true scopes n moved up each few = cut_rises n moved up each scopes few
passed_by false scopes n moved up each few = cut_rises n [] tt tt scopes few

all_cut : (scopes : List ℕ) (n : ℕ) (ts : List TableData) (bs : List BuildData) → AllByRecursion IsTable ts → length scopes ≤ n → AllByRecursion (IsBuild ts) bs
    → AllByRecursion (λ b. are_pairs_after n 0 0 (cut_to scopes (passed_pairs b)) ≡ true) bs
all_cut scopes n ts [] tables few each = tt
all_cut scopes n ts (b ∷ bs) tables few (is, each) =
    (passed_by (is_succeeded b.status) scopes n b.moved (rising b.moved is.2) (placed ts b.moved tables is.3) few, all_cut scopes n ts bs tables few each)

-- ---- one build more
-- of the job's builds those that succeeded, in order of making
abbrev pub chosen : Text → List BuildData → List BuildData
chosen job bs = filter (λ b. is_succeeded b.status) (filter (is_of job) bs)

filtered : (p : BuildData → Bool) (b : Bool) (bs : List BuildData) (x : BuildData) → p x ≡ b → filter p (bs ++ x ∷ []) ≡ filter p bs ++ cond b (x ∷ []) []
filtered p b bs x e = filter-append p bs (x ∷ []) ∙ ap (λ c. filter p bs ++ cond c (x ∷ []) []) e

-- a build's state decides whether it is chosen
pub chosen_by : (job : Text) (b c : Bool) (bs : List BuildData) (x : BuildData) → is_of job x ≡ b → is_succeeded x.status ≡ c
    → chosen job (bs ++ x ∷ []) ≡ chosen job bs ++ cond b (cond c (x ∷ []) []) []
chosen_by job true c bs x e d =
    ap (λ ys. filter (λ y. is_succeeded y.status) ys) (filtered (is_of job) true bs x e) ∙ filtered (λ y. is_succeeded y.status) c (filter (is_of job) bs) x d
chosen_by job false c bs x e d =
    ap (λ ys. filter (λ y. is_succeeded y.status) ys) (filtered (is_of job) false bs x e ∙ append-nil (filter (is_of job) bs)) ∙ sym (append-nil (chosen job bs))

module _ (job : Text) (scopes : List ℕ) (n : ℕ) where
  -- the job's chosen builds, newest first, as a problem has them
  abbrev shown : List BuildData → List BuildValue
  shown bs = map (build_value scopes) (reverse (chosen job bs))

  more_by : (b c : Bool) (bs : List BuildData) (x : BuildData) → is_of job x ≡ b → is_succeeded x.status ≡ c
      → shown (bs ++ x ∷ []) ≡ cond b (cond c (build_value scopes x ∷ shown bs) (shown bs)) (shown bs)
  more_by true true bs x e d =
      ap (λ ys. map (build_value scopes) (reverse ys)) (chosen_by job true true bs x e d) ∙ ap (map (build_value scopes)) (reverse-append (chosen job bs) (x ∷ []))
  more_by true false bs x e d =
      ap (λ ys. map (build_value scopes) (reverse ys)) (chosen_by job true false bs x e d ∙ append-nil (chosen job bs))
  more_by false c bs x e d =
      ap (λ ys. map (build_value scopes) (reverse ys)) (chosen_by job false c bs x e d ∙ append-nil (chosen job bs))

  -- the builds descend from above so many
  abbrev Descend : ℕ → List BuildValue → Type 0
  Descend count vs = (high : ℕ) → count < high → are_builds_below n high vs ≡ true

  -- what a build passed keeps the rules
  abbrev IsCut : BuildData → Type 0
  IsCut b = are_pairs_after n 0 0 (cut_to scopes (passed_pairs b)) ≡ true

  descend_by : (b c : Bool) (count : ℕ) (x : BuildData) (vs : List BuildValue) → Descend count vs → IsCut x → (b ≡ true → x.number ≡ count + 1)
      → Descend (count + cond b 1 0) (cond b (cond c (build_value scopes x ∷ vs) vs) vs)
  descend_by true true count x vs down cut next high above =
      let number : x.number ≡ count + 1 = next refl in
      let low : 0 < x.number = omega arith in
      let below : x.number < high = omega arith in
      and_from _ _ (and_from _ _ (lt-ltb _ _ low) (and_from _ _ (lt-ltb _ _ below) cut)) (down x.number (omega arith))
  descend_by true false count x vs down cut next high above = down high (omega arith)
  descend_by false c count x vs down cut next high above = down high (omega arith)

  descend_more : (bs : List BuildData) (x : BuildData) → Descend (count_of job bs) (shown bs) → IsCut x → x.number ≡ count_of x.job bs + 1
      → Descend (count_of job (bs ++ x ∷ [])) (shown (bs ++ x ∷ []))
  descend_more bs x down cut number =
      let own : is_of job x ≡ true → x.number ≡ count_of job bs + 1 = λ e. number ∙ ap (λ name. count_of name bs + 1) (sym (same_text job x.job e)) in
      let after = descend_by (is_of job x) (is_succeeded x.status) (count_of job bs) x (shown bs) down cut own in
      subst (λ count. Descend count (shown (bs ++ x ∷ []))) (sym (sum_by_push (λ b. cond (is_of job b) 1 0) bs x))
      (subst (λ vs. Descend (count_of job bs + cond (is_of job x) 1 0) vs) (sym (more_by (is_of job x) (is_succeeded x.status) bs x refl refl)) after)

  descend_all : (bs xs all : List BuildData) → all ≡ bs ++ xs → AreNumbered all → AllByRecursion IsCut xs → Descend (count_of job bs) (shown bs) → Descend (count_of job all) (shown all)
  descend_all bs [] all e numbered cut down = subst (λ ys. Descend (count_of job ys) (shown ys)) (sym (e ∙ append-nil bs)) down
  descend_all bs (x ∷ xs) all e numbered (cut, cuts) down =
      let there : slice_get all (length bs) ≡ Some x = ap (λ ys. slice_get ys (length bs)) e ∙ at_seam bs x xs in
      let before : take (length bs) all ≡ bs = ap (take (length bs)) e ∙ take_at bs (x ∷ xs) (length bs) refl in
      let number : x.number ≡ count_of x.job bs + 1 = numbered (length bs) x there ∙ ap (λ ys. count_of x.job ys + 1) before in
      descend_all (bs ++ x ∷ []) xs all (e ∙ sym (append_assoc bs (x ∷ []) xs)) numbered cuts (descend_more bs x down cut number)

  few_shown : (bs : List BuildData) → length (shown bs) ≤ length bs
  few_shown bs =
      let mine : List BuildData = filter (is_of job) bs in
      let some = count_by-le-length (λ b. is_succeeded b.status) mine in
      let own = count_by-le-length (is_of job) bs in
      let a = length-map (reverse (chosen job bs)) (build_value scopes) in
      let b = length-reverse (chosen job bs) in
      let c = length-filter (λ b. is_succeeded b.status) mine in
      let d = length-filter (is_of job) bs in
      omega arith

  pub builds_kept : (h : HistoryData) → IsHistory h → length scopes ≤ n → are_builds n (job_value h.builds scopes job) ≡ true
  builds_kept h is few =
      let down = descend_all [] h.builds h.builds refl is.1.1 (all_cut scopes n h.tables h.builds is.0.2 few is.1.2) (λ high above. refl) in
      let most : count_of job h.builds ≤ length h.builds = count_by-le-length (is_of job) h.builds in
      let short = few_shown h.builds in
      let limit : length h.builds ≤ 1000000 = is.1.0 in
      and_from _ _ (le-leb _ _ (omega arith)) (down 1000001 (omega arith))
