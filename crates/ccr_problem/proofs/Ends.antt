-- What builds that are made or end do to the problem of inputs.
use Rattle.std.proofs.Common.{◌≡◌, ℕ, suc, ◌+◌, ◌<◌, ◌≤◌, List, [], ◌∷◌, ◌++◌, length, map, reverse, take, Bool, true, false, cond, not, ◌||◌, ◌&&◌, ◌==◌, nat_lt, slice_set, slice_index_or, refl, sym, ap, ap₂, ◌∙◌, subst, arith, append_assoc, Option, Some, None, AllPairs}
use Rattle.std.specs.Prelude.{filter, slice_get}
use Rattle.std.specs.List.{AllByRecursion}
use Rattle.std.specs.Option.{option_or}
use Rattle.std.specs.Str.{bytes_eq}
use Rattle.std.proofs.lemmas.Bool.{and_parts, and_from, or_parts, lt-ltb, eqb-true, false≢true}
use Rattle.std.proofs.lemmas.List.{reverse-append, append-nil, take_at}
use Rattle.std.proofs.lemmas.List.Sums.{sum_by_push}
use Rattle.ccr_history.specs.declared.build.Status.{Status}
use Rattle.ccr_history.specs.declared.build.Status.TheVariants.{Running, Succeeded}
use Rattle.ccr_history.specs.Text.{Text}
use Rattle.ccr_history.specs.Newest.{last_given, place_if_at, newest_used}
use Rattle.ccr_history.specs.Changes.{build, ended as ended_edit, edited}
use Rattle.ccr_history.specs.Builds.{UsedData, BuildData, is_of, is_build_of, count_of, build_of, new_build, ended, with_end, is_succeeded, by_place}
use Rattle.ccr_history.specs.History.{HistoryData, AreNumbered}
use Rattle.ccr_pipeline.specs.Inputs.{InputData, named_jobs}
use Rattle.ccr_pipeline.specs.Names.{has_name, with_names}
use Rattle.ccr_pipeline.specs.Pipelines.{PipelineData}
use Rattle.ccr_choice.specs.Problem.{InputValue, BuildValue, ProblemValue}
use Rattle.ccr_problem.specs.Follows.{MadeBrings, UnsuccessfulEndLeaves, SuccessAdds, place_made, with_afters, has_newer, with_passed}
use Rattle.ccr_problem.specs.Numbering.{number_of}
use Rattle.ccr_problem.specs.Passed.{cut_to, build_value, job_value}
use Rattle.ccr_problem.specs.ProblemOf.{history_number, used_resources, takes_every, input_after, input_value, problem_with}
use Rattle.ccr_problem.proofs.Afters.{newest_ended, newest_made}
use Rattle.ccr_problem.proofs.Builds.{chosen, chosen_by, at_seam}
use Rattle.ccr_problem.proofs.Names.{AreApart, apart, same_text, same_self}

-- ---- lists
pub map_same : {X Y : Type 0} (f g : X → Y) (xs : List X) → ((x : X) → f x ≡ g x) → map f xs ≡ map g xs
map_same f g [] same = refl
map_same f g (x ∷ xs) same = ap₂ (λ y ys. y ∷ ys) (same x) (map_same f g xs same)

abbrev scopes_of : PipelineData → HistoryData → List InputData → List ℕ
scopes_of p h is = map (history_number p h) (used_resources is)

-- ---- a build that is made
none_by : (b : Bool) (x : BuildData) → cond b (cond false (x ∷ []) []) [] ≡ []
none_by true x = refl
none_by false x = refl

made_chosen : (job : Text) (bs : List BuildData) (x : BuildData) → is_succeeded x.status ≡ false → chosen job (bs ++ x ∷ []) ≡ chosen job bs
made_chosen job bs x e =
    chosen_by job (is_of job x) false bs x refl e ∙ ap (λ ys. chosen job bs ++ ys) (none_by (is_of job x) x) ∙ append-nil (chosen job bs)

-- what an input with a further place is
after_by : (every own : Bool) (taken before : Option ℕ)
    → cond every (option_or (cond own taken None) before) None ≡ option_or (cond own (cond every taken None) None) (cond every before None)
after_by true true taken before = refl
after_by true false taken before = refl
after_by false true taken before = refl
after_by false false taken before = refl

module _ (p : PipelineData) (h : HistoryData) (own job : Text) (used : List UsedData) (once : AllPairs (λ u v. bytes_eq u.input v.input ≡ false) used) where
  abbrev made : HistoryData
  made = edited (build job used) h

  after_made : (i : InputData) → input_after p made own i ≡ option_or (place_made p h job used own i) (input_after p h own i)
  after_made i =
      let scope : ℕ = history_number p h i.resource in
      ap (λ o. cond (takes_every i.wanted) o None) (newest_made i.name scope own job (count_of job h.builds + 1) used h.builds once)
      ∙ after_by (takes_every i.wanted) (bytes_eq own job) (last_given (place_if_at i.name scope) used) (newest_used own i.name scope h.builds)

  inputs_made : (resources jobs : List Text) (is : List InputData)
      → map (input_value p made own resources jobs) is ≡ with_afters (map (input_value p h own resources jobs) is) (map (place_made p h job used own) is)
  inputs_made resources jobs [] = refl
  inputs_made resources jobs (i ∷ is) =
      let x : InputValue = input_value p h own resources jobs i in
      ap₂ {C = List InputValue} (λ o xs. record { scope = x.scope; places = x.places; jobs = x.jobs; after = o } ∷ xs) (after_made i) (inputs_made resources jobs is)

pub made_brings : MadeBrings
made_brings p h own is job used once =
    let x = new_build job (count_of job h.builds + 1) used in
    ap₂ {C = ProblemValue} (λ xs js. record { inputs = xs; jobs = js })
    (inputs_made p h own job used once (used_resources is) (named_jobs [] is) is)
    (map_same (job_value (h.builds ++ x ∷ []) (scopes_of p h is)) (job_value h.builds (scopes_of p h is)) (named_jobs [] is)
    (λ name. ap (λ bs. map (build_value (scopes_of p h is)) (reverse bs)) (made_chosen name h.builds x refl)))

-- ---- a build more in front
pub step_by : (job : Text) (m s : Bool) (b : BuildData) (bs : List BuildData) → is_of job b ≡ m → is_succeeded b.status ≡ s
    → chosen job (b ∷ bs) ≡ cond m (cond s (b ∷ chosen job bs) (chosen job bs)) (chosen job bs)
step_by job true s b bs e d =
    ap (λ c. filter (λ y. is_succeeded y.status) (cond c (b ∷ filter (is_of job) bs) (filter (is_of job) bs))) e
    ∙ ap (λ c. cond c (b ∷ chosen job bs) (chosen job bs)) d
step_by job false s b bs e d =
    ap (λ c. filter (λ y. is_succeeded y.status) (cond c (b ∷ filter (is_of job) bs) (filter (is_of job) bs))) e

-- ---- the numbers of a job's builds rise
abbrev pub Rises : Text → List BuildData → Type 0
Rises job [] = Unit {0}
Rises job (b ∷ bs) = AllByRecursion (λ c. is_of job b ≡ true → is_of job c ≡ true → b.number < c.number) bs × Rises job bs

-- each of the job's builds has a number above this one
abbrev Above : Text → ℕ → List BuildData → Type 0
Above job n bs = AllByRecursion (λ c. is_of job c ≡ true → n < c.number) bs

above_less : (job : Text) (n m : ℕ) (bs : List BuildData) → n ≤ m → Above job m bs → Above job n bs
above_less job n m [] less h = tt
above_less job n m (b ∷ bs) less (here, h) = ((λ e. let above = here e in omega (arith, above)), above_less job n m bs less h)

above_own : (job : Text) (x : BuildData) (n : ℕ) (bs : List BuildData) → (is_of job x ≡ true → x.number ≤ n) → Above job n bs
    → AllByRecursion (λ c. is_of job x ≡ true → is_of job c ≡ true → x.number < c.number) bs
above_own job x n [] own h = tt
above_own job x n (b ∷ bs) own (here, h) = ((λ e d. let above = here d in let low = own e in omega (arith, above, low)), above_own job x n bs own h)

counted_by : (b : Bool) (n : ℕ) → n ≤ n + cond b 1 0
counted_by true n = omega arith
counted_by false n = omega arith

rises_from : (job : Text) (bs xs all : List BuildData) → all ≡ bs ++ xs → AreNumbered all → Above job (count_of job bs) xs × Rises job xs
rises_from job bs [] all e numbered = (tt, tt)
rises_from job bs (x ∷ xs) all e numbered =
    let there : slice_get all (length bs) ≡ Some x = ap (λ ys. slice_get ys (length bs)) e ∙ at_seam bs x xs in
    let before : take (length bs) all ≡ bs = ap (take (length bs)) e ∙ take_at bs (x ∷ xs) (length bs) refl in
    let number : x.number ≡ count_of x.job bs + 1 = numbered (length bs) x there ∙ ap (λ ys. count_of x.job ys + 1) before in
    let own : is_of job x ≡ true → x.number ≡ count_of job bs + 1 = λ d. number ∙ ap (λ name. count_of name bs + 1) (sym (same_text job x.job d)) in
    let rest = rises_from job (bs ++ x ∷ []) xs all (e ∙ sym (append_assoc bs (x ∷ []) xs)) numbered in
    let pushed : count_of job (bs ++ x ∷ []) ≡ count_of job bs + cond (is_of job x) 1 0 = sum_by_push (λ b. cond (is_of job b) 1 0) bs x in
    let longer = counted_by (is_of job x) (count_of job bs) in (
      ((λ d. let n = own d in omega (arith, n)), above_less job (count_of job bs) (count_of job (bs ++ x ∷ [])) xs (omega (arith, pushed, longer)) rest.0),
      (above_own job x (count_of job (bs ++ x ∷ [])) xs (λ d. let n = own d in let one : cond (is_of job x) 1 0 ≡ 1 = ap {B = ℕ} (λ c. cond c 1 0) d in omega (arith, n, pushed, one)) rest.0, rest.1),
    )

pub rises : (job : Text) (bs : List BuildData) → AreNumbered bs → Rises job bs
rises job bs numbered = (rises_from job [] bs bs refl numbered).1

-- ---- a build that ends
module _ (job : Text) (number : ℕ) (status : Status) (moved : List (ℕ × ℕ)) where
  -- the build, if it is the one that ends, as it is then
  abbrev over : BuildData → BuildData
  over b = cond (is_build_of job number b) (ended status moved b) b

  -- where it is the one that ends, it is this one
  abbrev pub IsIt : BuildData → BuildData → Type 0
  IsIt it b = is_build_of job number b ≡ true → b ≡ it

  is_its : (b : BuildData) → is_build_of job number b ≡ true → (is_of job b ≡ true) × (b.number ≡ number)
  is_its b e = let parts = and_parts (is_of job b) (number == b.number) e in (parts.0, sym (eqb-true _ _ parts.1))

  none_again : (b it : BuildData) (bs : List BuildData) → is_build_of job number b ≡ true
      → AllByRecursion (λ c. is_of job b ≡ true → is_of job c ≡ true → b.number < c.number) bs → AllByRecursion (λ c. is_build_of job number c ≡ true → ⊥) bs
  none_again b it [] e h = tt
  none_again b it (c ∷ bs) e (here, h) =
      let own = is_its b e in
      ((λ d. let other = is_its c d in let above = here own.0 other.0 in absurd (omega (arith, above, own.1, other.1))), none_again b it bs e h)

  only_none : (it : BuildData) (bs : List BuildData) → AllByRecursion (λ c. is_build_of job number c ≡ true → ⊥) bs → AllByRecursion (IsIt it) bs
  only_none it [] h = tt
  only_none it (b ∷ bs) (here, h) = ((λ e. absurd (here e)), only_none it bs h)

  found_by : (t : Bool) (b it : BuildData) (bs : List BuildData) → is_build_of job number b ≡ t → cond t (Some b) (build_of job number bs) ≡ Some it
      → AllByRecursion (λ c. is_of job b ≡ true → is_of job c ≡ true → b.number < c.number) bs
      → (build_of job number bs ≡ Some it → AllByRecursion (IsIt it) bs) → AllByRecursion (IsIt it) (b ∷ bs)
  found_by true b it bs e is up rec = let same : b ≡ it = cc in ((λ d. same), only_none it bs (none_again b it bs e up))
  found_by false b it bs e is up rec = ((λ d. absurd (false≢true (sym e ∙ d))), rec is)

  pub only : (it : BuildData) (bs : List BuildData) → Rises job bs → build_of job number bs ≡ Some it → AllByRecursion (IsIt it) bs
  only it [] up is = absurd (cc)
  only it (b ∷ bs) (first, up) is = found_by (is_build_of job number b) b it bs refl is first (only it bs up)

  -- where neither the build that ends nor its end is among a job's chosen builds, these stay
  abbrev Stays : Text → BuildData → Type 0
  Stays name it = is_of name it ≡ true → (is_succeeded it.status ≡ false) × (is_succeeded status ≡ false)

  same_by : (name : Text) (it b : BuildData) (t m : Bool) (bs : List BuildData) → is_build_of job number b ≡ t → is_of name b ≡ m → IsIt it b → Stays name it
      → chosen name (map over bs) ≡ chosen name bs → chosen name (over b ∷ map over bs) ≡ chosen name (b ∷ bs)
  same_by name it b true true bs e d is stays rec =
      let same = is e in
      let was = stays (ap (is_of name) (sym same) ∙ d) in
      ap (λ c. chosen name (cond c (ended status moved b) b ∷ map over bs)) e
      ∙ step_by name true false (ended status moved b) (map over bs) d was.1 ∙ rec
      ∙ sym (step_by name true false b bs d (ap (λ y. is_succeeded y.status) same ∙ was.0))
  same_by name it b true false bs e d is stays rec =
      ap (λ c. chosen name (cond c (ended status moved b) b ∷ map over bs)) e
      ∙ step_by name false (is_succeeded status) (ended status moved b) (map over bs) d refl ∙ rec
      ∙ sym (step_by name false (is_succeeded b.status) b bs d refl)
  same_by name it b false m bs e d is stays rec =
      ap (λ c. chosen name (cond c (ended status moved b) b ∷ map over bs)) e
      ∙ step_by name m (is_succeeded b.status) b (map over bs) d refl
      ∙ ap (λ ys. cond m (cond (is_succeeded b.status) (b ∷ ys) ys) ys) rec
      ∙ sym (step_by name m (is_succeeded b.status) b bs d refl)

  same_chosen : (name : Text) (it : BuildData) (bs : List BuildData) → AllByRecursion (IsIt it) bs → Stays name it → chosen name (map over bs) ≡ chosen name bs
  same_chosen name it [] is stays = refl
  same_chosen name it (b ∷ bs) (here, is) stays =
      same_by name it b (is_build_of job number b) (is_of name b) bs refl refl here stays (same_chosen name it bs is stays)

  -- a running build that ends without success, and one of another job
  pub end_same : (name : Text) (bs : List BuildData) (it : BuildData) → AreNumbered bs → build_of job number bs ≡ Some it → it.status ≡ Running
      → (bytes_eq name it.job ≡ true → is_succeeded status ≡ false) → chosen name (map over bs) ≡ chosen name bs
  end_same name bs it numbered is runs fails =
      same_chosen name it bs (only it bs (rises job bs numbered) is) (λ d. (ap is_succeeded runs, fails d))

-- the inputs stay, since the build keeps what it used
inputs_ended : (p : PipelineData) (h : HistoryData) (own job : Text) (number : ℕ) (status : Status) (moved : List (ℕ × ℕ)) (resources jobs : List Text) (is : List InputData)
    → map (input_value p (edited (ended_edit job number status moved) h) own resources jobs) is ≡ map (input_value p h own resources jobs) is
inputs_ended p h own job number status moved resources jobs is =
    map_same (input_value p (edited (ended_edit job number status moved) h) own resources jobs) (input_value p h own resources jobs) is each
  where
    each : (i : InputData) → input_value p (edited (ended_edit job number status moved) h) own resources jobs i ≡ input_value p h own resources jobs i
    each i =
        let x : InputValue = input_value p h own resources jobs i in
        ap {B = InputValue} (λ o. record { scope = x.scope; places = x.places; jobs = x.jobs; after = cond (takes_every i.wanted) o None })
        (newest_ended own i.name (history_number p h i.resource) job number status moved h.builds)

pub unsuccessful_end_leaves : UnsuccessfulEndLeaves
unsuccessful_end_leaves p h own is job number status moved rules (it, found, runs) fails =
    ap₂ {C = ProblemValue} (λ xs js. record { inputs = xs; jobs = js })
    (inputs_ended p h own job number status moved (used_resources is) (named_jobs [] is) is)
    (map_same (job_value (with_end job number status moved h.builds) (scopes_of p h is)) (job_value h.builds (scopes_of p h is)) (named_jobs [] is)
    (λ name. ap (λ bs. map (build_value (scopes_of p h is)) (reverse bs)) (end_same job number status moved name h.builds it rules.1.1 found runs (λ _. fails))))

-- ---- a build that succeeds
module _ (job : Text) (number : ℕ) (moved : List (ℕ × ℕ)) where
  abbrev done : BuildData → BuildData
  done b = cond (is_build_of job number b) (ended Succeeded moved b) b

  -- no build of the job that is newer is chosen
  none_newer : (bs : List BuildData) → Above job number bs → has_newer job number bs ≡ false → chosen job bs ≡ []
  none_newer [] above none = refl
  none_newer (b ∷ bs) (here, above) none =
      let parts = or_parts (is_of job b && (is_succeeded b.status && nat_lt number b.number)) (has_newer job number bs) none in
      by (is_of job b) (is_succeeded b.status) refl refl parts.0 (none_newer bs above parts.1)
    where
      by : (m s : Bool) → is_of job b ≡ m → is_succeeded b.status ≡ s → (is_of job b && (is_succeeded b.status && nat_lt number b.number)) ≡ false
          → chosen job bs ≡ [] → chosen job (b ∷ bs) ≡ []
      by true true e d new rec =
          let later = here e in absurd (false≢true (sym new ∙ and_from _ _ e (and_from _ _ d (lt-ltb _ _ later))))
      by true false e d new rec = step_by job true false b bs e d ∙ rec
      by false s e d new rec = step_by job false s b bs e d ∙ rec

  unchanged : (bs : List BuildData) → AllByRecursion (λ c. is_build_of job number c ≡ true → ⊥) bs → map done bs ≡ bs
  unchanged [] h = refl
  unchanged (b ∷ bs) (here, h) = by (is_build_of job number b) refl (unchanged bs h)
    where
      by : (t : Bool) → is_build_of job number b ≡ t → map done bs ≡ bs → done b ∷ map done bs ≡ b ∷ bs
      by true e rec = absurd (here e)
      by false e rec = ap (λ c. cond c (ended Succeeded moved b) b ∷ map done bs) e ∙ ap (λ ys. b ∷ ys) rec

  last_by : (b it : BuildData) (t : Bool) (bs : List BuildData) → is_build_of job number b ≡ t → cond t (Some b) (build_of job number bs) ≡ Some it → it.status ≡ Running
      → AllByRecursion (λ c. is_of job b ≡ true → is_of job c ≡ true → b.number < c.number) bs → has_newer job number bs ≡ false
      → (build_of job number bs ≡ Some it → chosen job (map done bs) ≡ chosen job bs ++ ended Succeeded moved it ∷ [])
      → chosen job (done b ∷ map done bs) ≡ chosen job (b ∷ bs) ++ ended Succeeded moved it ∷ []
  last_by b it true bs e is runs up none rec =
      let same : b ≡ it = cc in
      let own = is_its job number Succeeded moved b e in
      let above : Above job number bs = subst (λ n. Above job n bs) own.1 (above_own_of bs up) in
      let rest = none_newer bs above none in
      let left = unchanged bs (none_again job number Succeeded moved b it bs e up) in
      ap (λ c. chosen job (cond c (ended Succeeded moved b) b ∷ map done bs)) e
      ∙ step_by job true true (ended Succeeded moved b) (map done bs) own.0 refl
      ∙ ap (λ ys. ended Succeeded moved b ∷ chosen job ys) left ∙ ap (λ ys. ended Succeeded moved b ∷ ys) rest
      ∙ ap (λ y. ended Succeeded moved y ∷ []) same
      ∙ ap (λ ys. ys ++ ended Succeeded moved it ∷ []) (sym (step_by job true false b bs own.0 (ap (λ y. is_succeeded y.status) same ∙ ap is_succeeded runs) ∙ rest))
    where
      above_own_of : (cs : List BuildData) → AllByRecursion (λ c. is_of job b ≡ true → is_of job c ≡ true → b.number < c.number) cs → Above job b.number cs
      above_own_of [] h = tt
      above_own_of (c ∷ cs) (here, h) = ((λ d. here (is_its job number Succeeded moved b e).0 d), above_own_of cs h)
  last_by b it false bs e is runs up none rec =
      ap (λ c. chosen job (cond c (ended Succeeded moved b) b ∷ map done bs)) e
      ∙ by (is_of job b) (is_succeeded b.status) refl refl (rec is)
    where
      by : (m s : Bool) → is_of job b ≡ m → is_succeeded b.status ≡ s → chosen job (map done bs) ≡ chosen job bs ++ ended Succeeded moved it ∷ []
          → chosen job (b ∷ map done bs) ≡ chosen job (b ∷ bs) ++ ended Succeeded moved it ∷ []
      by true true d f last = step_by job true true b (map done bs) d f ∙ ap (λ ys. b ∷ ys) last ∙ ap (λ ys. ys ++ ended Succeeded moved it ∷ []) (sym (step_by job true true b bs d f))
      by true false d f last = step_by job true false b (map done bs) d f ∙ last ∙ ap (λ ys. ys ++ ended Succeeded moved it ∷ []) (sym (step_by job true false b bs d f))
      by false s d f last = step_by job false s b (map done bs) d f ∙ last ∙ ap (λ ys. ys ++ ended Succeeded moved it ∷ []) (sym (step_by job false s b bs d f))

  last : (it : BuildData) (bs : List BuildData) → Rises job bs → build_of job number bs ≡ Some it → it.status ≡ Running → has_newer job number bs ≡ false
      → chosen job (map done bs) ≡ chosen job bs ++ ended Succeeded moved it ∷ []
  last it [] up is runs none = absurd (cc)
  last it (b ∷ bs) (first, up) is runs none =
      let parts = or_parts (is_of job b && (is_succeeded b.status && nat_lt number b.number)) (has_newer job number bs) none in
      last_by b it (is_build_of job number b) bs refl is runs first parts.1 (λ d. last it bs up d runs parts.1)

-- ---- the named jobs, one of which has one build more
module _ (job : Text) (b : BuildValue) (f g : Text → List BuildValue) (own : g job ≡ b ∷ f job) (others : (name : Text) → bytes_eq name job ≡ false → g name ≡ f name) where
  abbrev put : List Text → List (List BuildValue)
  put names = cond (has_name names job) (slice_set (map f names) (number_of names job) (b ∷ slice_index_or (map f names) (number_of names job) [])) (map f names)

  put_by : (t : Bool) (x : Text) (xs : List Text) → bytes_eq job x ≡ t → has_name xs x ≡ false → (has_name xs job ≡ false → map g xs ≡ map f xs) → map g xs ≡ put xs
      → g x ∷ map g xs ≡ cond (t || has_name xs job)
      (slice_set (f x ∷ map f xs) (cond (not t) (1 + number_of xs job) 0) (b ∷ slice_index_or (f x ∷ map f xs) (cond (not t) (1 + number_of xs job) 0) [])) (f x ∷ map f xs)
  put_by true x xs e new none rec =
      let same : job ≡ x = same_text job x e in
      ap₂ (λ y ys. y ∷ ys) (ap g (sym same) ∙ own ∙ ap (λ z. b ∷ f z) same) (none (ap (has_name xs) same ∙ new))
  put_by false x xs e new none rec = by (has_name xs job) refl rec
    where
      differs : (t : Bool) → bytes_eq x job ≡ t → t ≡ false
      differs true d = absurd (false≢true (sym e ∙ ap (λ z. bytes_eq z x) (sym (same_text x job d)) ∙ same_self x))
      differs false d = refl

      n : ℕ
      n = number_of xs job

      next : slice_set (f x ∷ map f xs) (1 + n) (b ∷ slice_index_or (f x ∷ map f xs) (1 + n) []) ≡ f x ∷ slice_set (map f xs) n (b ∷ slice_index_or (map f xs) n [])
      next = let e : 1 + n ≡ suc n = omega arith in ap (λ k. slice_set (f x ∷ map f xs) k (b ∷ slice_index_or (f x ∷ map f xs) k [])) e

      later : (t : Bool) → has_name xs job ≡ t → map g xs ≡ put xs → g x ∷ map g xs ≡ f x ∷ cond t (slice_set (map f xs) n (b ∷ slice_index_or (map f xs) n [])) (map f xs)
      later t d rec =
          ap₂ (λ y ys. y ∷ ys) (others x (differs (bytes_eq x job) refl)) (rec ∙ ap (λ c. cond c (slice_set (map f xs) n (b ∷ slice_index_or (map f xs) n [])) (map f xs)) d)

      by : (t : Bool) → has_name xs job ≡ t → map g xs ≡ put xs
          → g x ∷ map g xs ≡ cond (has_name xs job) (slice_set (f x ∷ map f xs) (1 + n) (b ∷ slice_index_or (f x ∷ map f xs) (1 + n) [])) (f x ∷ map f xs)
      by true d rec =
          later true d rec
          ∙ sym (ap (λ c. cond c (slice_set (f x ∷ map f xs) (1 + n) (b ∷ slice_index_or (f x ∷ map f xs) (1 + n) [])) (f x ∷ map f xs)) d ∙ next)
      by false d rec =
          later false d rec
          ∙ sym (ap (λ c. cond c (slice_set (f x ∷ map f xs) (1 + n) (b ∷ slice_index_or (f x ∷ map f xs) (1 + n) [])) (f x ∷ map f xs)) d)

  put_all : (names : List Text) → AreApart names → map g names ≡ put names
  put_all [] h = refl
  put_all (x ∷ xs) (new, h) =
      let rec = put_all xs h in
      put_by (bytes_eq job x) x xs refl new (λ none. rec ∙ ap (λ c. cond c (slice_set (map f xs) (number_of xs job) (b ∷ slice_index_or (map f xs) (number_of xs job) [])) (map f xs)) none) rec

named_apart : (names : List Text) (is : List InputData) → AreApart names → AreApart (named_jobs names is)
named_apart names [] h = h
named_apart names (i ∷ is) h = named_apart (with_names names i.passed) is (apart names i.passed h)

pub success_adds : SuccessAdds
success_adds p h who is job number moved rules (it, found, runs) none =
    let scopes = scopes_of p h is in
    let b : BuildValue = record { number = number; pairs = cut_to scopes (by_place moved) } in
    let f : Text → List BuildValue = job_value h.builds scopes in
    let g : Text → List BuildValue = job_value (with_end job number Succeeded moved h.builds) scopes in
    let names = named_jobs [] is in
    let up = rises job h.builds rules.1.1 in
    let own : g job ≡ b ∷ f job =
    ap (λ bs. map (build_value scopes) (reverse bs)) (last job number moved it h.builds up found runs none)
    ∙ ap (map (build_value scopes)) (reverse-append (chosen job h.builds) (ended Succeeded moved it ∷ []))
    ∙ ap (λ n. record { number = n; pairs = cut_to scopes (by_place moved) } ∷ f job) (numbered_it h.builds found) in
    let others : (name : Text) → bytes_eq name job ≡ false → g name ≡ f name = λ name other.
    ap (λ bs. map (build_value scopes) (reverse bs))
    (end_same job number Succeeded moved name h.builds it rules.1.1 found runs (λ same. absurd (false≢true (sym other ∙ ap (bytes_eq name) (own_job h.builds found) ∙ same)))) in
    ap₂ {C = ProblemValue} (λ xs js. record { inputs = xs; jobs = js })
    (inputs_ended p h who job number Succeeded moved (used_resources is) names is) (put_all job b f g own others names (named_apart [] is tt))
    ∙ by (has_name names job) (number_of names job) b (problem_with p h who is)
  where
    numbered_by : (t : Bool) (c : BuildData) (rest : Option BuildData) → is_build_of job number c ≡ t → cond t (Some c) rest ≡ Some it → (rest ≡ Some it → (is_build_of job number it ≡ true)) → is_build_of job number it ≡ true
    numbered_by true c rest e is rec = let same : c ≡ it = cc in ap (is_build_of job number) (sym same) ∙ e
    numbered_by false c rest e is rec = rec is

    it_is : (bs : List BuildData) → build_of job number bs ≡ Some it → is_build_of job number it ≡ true
    it_is [] is = absurd (cc)
    it_is (c ∷ bs) is = numbered_by (is_build_of job number c) c (build_of job number bs) refl is (it_is bs)

    numbered_it : (bs : List BuildData) → build_of job number bs ≡ Some it → it.number ≡ number
    numbered_it bs is = (is_its job number Succeeded moved it (it_is bs is)).1

    own_job : (bs : List BuildData) → build_of job number bs ≡ Some it → job ≡ it.job
    own_job bs is = same_text job it.job (is_its job number Succeeded moved it (it_is bs is)).0

    by : (t : Bool) (n : ℕ) (b : BuildValue) (q : ProblemValue)
        → record { inputs = q.inputs; jobs = cond t (slice_set q.jobs n (b ∷ slice_index_or q.jobs n [])) q.jobs } ≡ with_passed q (cond t (Some (n, b)) None)
    by true n b q = refl
    by false n b q = refl
