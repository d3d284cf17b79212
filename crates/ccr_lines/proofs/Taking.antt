-- What a build took, one input after another.
use Rattle.std.proofs.Common.{◌≡◌, ℕ, zero, suc, ◌+◌, ◌-◌, ◌<◌, ◌≤◌, List, [], ◌∷◌, ◌++◌, length, map, take, drop, get_or, slice_index, slice_index_or, Bool, true, false, cond, ◌&&◌, ◌==◌, nat_lt, nat_le, bytes_eq, MatchBool, Option, Some, None, is_some, option_map, find, slice_get, Contains, Result, IfOk, string_bytes, String, Global, refl, sym, ap, ap₂, ◌∙◌, subst, arith}
use Rattle.std.specs.List.{list_all, range_with_len, AllByRecursion}
use Rattle.std.specs.declared.alloc.AllocError.{AllocError}
use Rattle.std.proofs.lemmas.Bool.{false≢true, and_from, and_parts, ltb-true, leb-true, eqb-true}
use Rattle.std.proofs.lemmas.List.{length-map, map-append, map_more, get_or-map}
use Rattle.std.proofs.lemmas.List.Folds.{list_all_at}
use Rattle.std.proofs.lemmas.List.FromFn.{length-range_with_len, get_or-range_with_len}
use Rattle.std.proofs.lemmas.Result.{IfOk-weaker}
use Rattle.ccr_history.specs.Text.{Text}
use Rattle.ccr_history.specs.Tables.{TableData}
use Rattle.ccr_history.specs.Builds.{UsedData, BuildData}
use Rattle.ccr_history.specs.History.{HistoryData, IsUsed, IsBuild, IsHistory, places_at}
use Rattle.ccr_pipeline.specs.Inputs.{InputData, input_data, named_jobs}
use Rattle.ccr_pipeline.specs.Pipelines.{PipelineData}
use Rattle.ccr_pipeline.specs.declared.input.Input.{Input}
use Rattle.ccr_choice.specs.Problem.{InputValue, ProblemValue, no_input, input_at}
use Rattle.ccr_choice.specs.Satisfies.{IsAllowed}
use Rattle.ccr_problem.specs.Passed.{job_value}
use Rattle.ccr_problem.specs.ProblemOf.{history_number, used_resources}
use Rattle.ccr_lines.specs.BuildCertificates.{is_taken, place_for, IsSaidOf, IsTakenShown}
use Rattle.ccr_lines.specs.PastProblems.{open_input, past_problem}
use Rattle.ccr_lines.proofs.Showing.{drop_there}

-- the place of the first that passes a test
abbrev pub place_of : (UsedData → Bool) → List UsedData → Option ℕ
place_of test us = option_map (λ u. u.place) (find test us)

-- one that passes
pub place_here : (test : UsedData → Bool) (us : List UsedData) (k : ℕ) (u : UsedData) (is : Bool) → slice_get us k ≡ Some u
    → is ≡ test u → is ≡ true → place_of test (drop k us) ≡ place_of test us → Some u.place ≡ place_of test us
place_here test us k u is at tested passes rest =
    sym (ap (λ b. option_map (λ x. x.place) (cond b (Some u) (find test (drop (k + 1) us)))) (sym tested ∙ passes))
    ∙ (sym (ap (place_of test) (drop_there us k u at)) ∙ rest)

-- one that doesn't
pub place_on : (test : UsedData → Bool) (us : List UsedData) (k : ℕ) (u : UsedData) (is : Bool) → slice_get us k ≡ Some u
    → is ≡ test u → is ≡ false → place_of test (drop k us) ≡ place_of test us → place_of test (drop (k + 1) us) ≡ place_of test us
place_on test us k u is at tested fails rest =
    sym (ap (λ b. option_map (λ x. x.place) (cond b (Some u) (find test (drop (k + 1) us)))) (sym tested ∙ fails))
    ∙ (sym (ap (place_of test) (drop_there us k u at)) ∙ rest)

-- one that was taken for another input
pub other_here : (test : UsedData → Bool) (us : List UsedData) (k : ℕ) (u : UsedData) (is : Bool) → slice_get us k ≡ Some u
    → is ≡ test u → is ≡ false → list_all test (drop k us) ≡ list_all test us → false ≡ list_all test us
other_here test us k u is at tested fails rest =
    sym (ap (λ b. b && list_all test (drop (k + 1) us)) (sym tested ∙ fails))
    ∙ (sym (ap (list_all test) (drop_there us k u at)) ∙ rest)

-- and one that wasn't
pub other_on : (test : UsedData → Bool) (us : List UsedData) (k : ℕ) (u : UsedData) (is : Bool) → slice_get us k ≡ Some u
    → is ≡ test u → is ≡ true → list_all test (drop k us) ≡ list_all test us
    → list_all test (drop (k + 1) us) ≡ list_all test us
other_on test us k u is at tested passes rest =
    sym (ap (λ b. b && list_all test (drop (k + 1) us)) (sym tested ∙ passes))
    ∙ (sym (ap (list_all test) (drop_there us k u at)) ∙ rest)

-- ---- places
-- one place more
pub places_more : (taken : InputData → Option ℕ) (gets : List Input) (k : ℕ) (g : Input) (place : ℕ) (old new : List ℕ)
    → k < length gets → get_or gets k g ≡ g → map Some old ≡ map taken (map input_data (take k gets))
    → taken (input_data g) ≡ Some place → new ≡ old ++ place ∷ []
    → map Some new ≡ map taken (map input_data (take (k + 1) gets))
places_more taken gets k g place old new within here before found n =
    ap (map Some) n
    ∙ (map-append Some old (place ∷ [])
    ∙ (ap₂ (λ xs y. xs ++ y ∷ []) before (sym found)
    ∙ (sym (map-append taken (map input_data (take k gets)) (input_data g ∷ []))
    ∙ ap (map taken) (ap (λ x. map input_data (take k gets) ++ input_data x ∷ []) (sym here) ∙ sym (map_more input_data gets k g within)))))

-- an input without a place
pub none_there : (taken : InputData → Option ℕ) (gets : List Input) (k : ℕ) (g : Input) → k < length gets → get_or gets k g ≡ g
    → taken (input_data g) ≡ None → list_all (λ i. is_some (taken i)) (map input_data gets) ≡ false
none_there taken gets k g within here none =
    let inside : k < length (map input_data gets) = omega (arith, length-map gets input_data) in
    let there : get_or (map input_data gets) k (input_data g) ≡ input_data g =
    get_or-map input_data gets k g (input_data g) within ∙ ap input_data here in
    list_all_at (λ i. is_some (taken i)) (map input_data gets) k (input_data g) inside
    (ap (λ i. is_some (taken i)) there ∙ ap is_some none)

-- a place for each input
pub all_there : (taken : InputData → Option ℕ) (is : List InputData) (places : List ℕ) → map Some places ≡ map taken is
    → list_all (λ i. is_some (taken i)) is ≡ true
all_there taken [] places e = refl
all_there taken (i ∷ is) [] e = absurd (cc (e))
all_there taken (i ∷ is) (n ∷ ns) e =
    let first : taken i ≡ Some n = cc (e) in
    let rest : map Some ns ≡ map taken is = cc (e) in
    and_from _ _ (ap is_some first) (all_there taken is ns rest)

-- ---- what the plan says
-- all were taken, and no other
pub took_all : (x y : Bool) (P Q : Type 0) → x ≡ true → y ≡ true → P → MatchBool (x && y) P Q
took_all true true P Q e f p = p
took_all true false P Q e f p = absurd (false≢true f)
took_all false y P Q e f p = absurd (false≢true e)

-- ---- places of the tables
-- the build took this place from these tables
abbrev IsFrom : List TableData → (UsedData → Bool) → ℕ → UsedData → Type 0
IsFrom tables test n u = (test u ≡ true) × (u.place ≡ n) × IsUsed tables u

from_by : (tables : List TableData) (test : UsedData → Bool) (n : ℕ) (u : UsedData) (rest : Option UsedData) (is : Bool) → test u ≡ is
    → IsUsed tables u → option_map (λ x. x.place) (cond is (Some u) rest) ≡ Some n
    → (option_map (λ x. x.place) rest ≡ Some n → (v : UsedData) × IsFrom tables test n v) → (v : UsedData) × IsFrom tables test n v
from_by tables test n u rest true passes used e more = let same : u.place ≡ n = cc (e) in (u, (passes, same, used))
from_by tables test n u rest false passes used e more = more e

from : (tables : List TableData) (test : UsedData → Bool) (n : ℕ) (us : List UsedData) → AllByRecursion (IsUsed tables) us
    → place_of test us ≡ Some n → (u : UsedData) × IsFrom tables test n u
from tables test n [] each e = absurd (cc (e))
from tables test n (u ∷ us) each e =
    from_by tables test n u (find test us) (test u) refl each.0 e (from tables test n us each.1)

-- it is one of the places of its scope
within_scope : (tables : List TableData) (input : Text) (scope n : ℕ) (us : List UsedData) → AllByRecursion (IsUsed tables) us
    → place_of (is_taken input scope) us ≡ Some n → Contains (range_with_len 1 (places_at tables scope)) n
within_scope tables input scope n us each e =
    let f = from tables (is_taken input scope) n us each e in
    let u : UsedData = f.0 in
    let same : scope ≡ u.scope = eqb-true scope u.scope (and_parts (bytes_eq input u.input) (scope == u.scope) f.1.0).1 in
    let parts = and_parts (nat_lt 0 u.place) (nat_le u.place (places_at tables u.scope)) f.1.2.1 in
    let low : 0 < u.place = ltb-true 0 u.place parts.0 in
    let high : u.place ≤ places_at tables u.scope = leb-true u.place (places_at tables u.scope) parts.1 in
    let most : u.place ≤ places_at tables scope = subst (λ s. u.place ≤ places_at tables s) (sym same) high in
    let is : u.place ≡ n = f.1.1 in
    let count : ℕ = places_at tables scope in
    let inside : n - 1 < count = omega (arith, low, most, is) in
    let at : slice_index_or (range_with_len 1 count) (n - 1) n ≡ 1 + (n - 1) = get_or-range_with_len 1 count (n - 1) n inside in
    let back : 1 + (n - 1) ≡ n = omega (arith, low, is) in
    (n - 1, omega (arith, inside, length-range_with_len 1 count), at ∙ back)

module _ (p : PipelineData) (h : HistoryData) (used : List UsedData) (each : AllByRecursion (IsUsed h.tables) used)
    (resources jobs : List Text) where
  -- the inputs as the problem has them
  abbrev opened : List InputData → List InputValue
  opened is = map (open_input p h resources jobs) is

  allowed_at : (is : List InputData) (places : List ℕ) (i : ℕ) → map Some places ≡ map (place_for p h used) is
      → i < length (opened is) → Contains (slice_index_or (opened is) i no_input).places (slice_index places i)
  allowed_at [] places i e within = absurd (omega arith)
  allowed_at (g ∷ gs) [] i e within = absurd (cc (e))
  allowed_at (g ∷ gs) (n ∷ ns) zero e within =
      let first : place_for p h used g ≡ Some n = cc (e) in
      within_scope h.tables g.name (history_number p h g.resource) n used each first
  allowed_at (g ∷ gs) (n ∷ ns) (suc i) e within =
      let rest : map Some ns ≡ map (place_for p h used) gs = cc (e) in
      allowed_at gs ns i rest (omega arith)

-- the first of a list, and the others, as one by one
one_of : {X : Type 0} (P : X → Type 0) (xs : List X) (k : ℕ) (x : X) → AllByRecursion P xs → slice_get xs k ≡ Some x → P x
one_of P [] k x each e = absurd (cc (e))
one_of P (y ∷ ys) zero x each e = let same : y ≡ x = cc (e) in subst P same each.0
one_of P (y ∷ ys) (suc k) x each e = one_of P ys k x each.1 e

-- each place that a build took is allowed in its problem
pub allowed_so : (p : PipelineData) (h : HistoryData) (b : BuildData) (k : ℕ) (before : List BuildData) (is : List InputData)
    (places : List ℕ) (q : ProblemValue) → IsHistory h → slice_get h.builds k ≡ Some b
    → map Some places ≡ map (place_for p h b.used) is → q ≡ past_problem p h before is
    → (i : ℕ) → i < length q.inputs → IsAllowed q places i
unfolding IsAllowed
allowed_so p h b k before is places q history at e same i within =
    let used = (one_of (IsBuild h.tables) h.builds k b history.1.2 at).1 in
    let all : ProblemValue = past_problem p h before is in
    let inside : i < length all.inputs = subst (λ x. i < length x.inputs) same within in
    let P : ProblemValue → Type 0 = λ x. Contains (input_at x i).places (slice_index places i) in
    subst P (sym same) (allowed_at p h b.used used (used_resources is) (named_jobs [] is) is places i e inside)

-- so many places as inputs
pub each_place : (p : PipelineData) (h : HistoryData) (used : List UsedData) (before : List BuildData) (is : List InputData)
    (places : List ℕ) (q : ProblemValue) → map Some places ≡ map (place_for p h used) is → q ≡ past_problem p h before is
    → length places ≡ length q.inputs
each_place p h used before is places q e same =
    let resources : List Text = used_resources is in
    let jobs : List Text = named_jobs [] is in
    let a = length-map places Some in
    let b = length-map is (place_for p h used) in
    let c = length-map is (open_input p h resources jobs) in
    let d = ap (λ x. length x.inputs) same in
    omega (arith, a, b, c, d, ap length e)

-- so many names as jobs
pub each_name : (p : PipelineData) (h : HistoryData) (before : List BuildData) (is : List InputData) (names : List (String Global))
    (q : ProblemValue) → map string_bytes names ≡ named_jobs [] is → q ≡ past_problem p h before is → length names ≡ length q.jobs
each_name p h before is names q e same =
    let scopes : List ℕ = map (history_number p h) (used_resources is) in
    let a = length-map names string_bytes in
    let b = length-map (named_jobs [] is) (job_value before scopes) in
    let d = ap (λ x. length x.jobs) same in
    omega (arith, a, b, d, ap length e)

-- what is said of the problem is what is shown
pub shown_so : (p : PipelineData) (h : HistoryData) (before : List BuildData) (is : List InputData) (used : List UsedData)
    (names : List Text) (places : List ℕ) (q : ProblemValue) (r : Result (ℕ × String Global) AllocError)
    → map Some places ≡ map (place_for p h used) is → names ≡ named_jobs [] is → q ≡ past_problem p h before is
    → IfOk r (λ x. IsSaidOf q names places x.0 (string_bytes x.1))
    → IfOk r (λ x. IsTakenShown p h before is used x.0 (string_bytes x.1))
shown_so p h before is used names places q r e named same said =
    IfOk-weaker r (λ x. IsSaidOf q names places x.0 (string_bytes x.1)) (λ x. IsTakenShown p h before is used x.0 (string_bytes x.1))
    (λ x h-said. (
      places,
      e,
      subst (λ ns. IsSaidOf (past_problem p h before is) ns places x.0 (string_bytes x.1)) named
          (subst (λ y. IsSaidOf y names places x.0 (string_bytes x.1)) same h-said),
    )) said
