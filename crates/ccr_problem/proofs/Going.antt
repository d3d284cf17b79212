-- What satisfies the problem of a job's inputs goes together for them, and the other way round.
use Rattle.std.proofs.Common.{◌≡◌, ℕ, zero, suc, ◌<◌, List, [], ◌∷◌, length, map, true, ◌==◌, Some, refl, sym, ap, ◌∙◌, subst, arith}
use Rattle.std.specs.Prelude.{slice_get, slice_index, slice_index_or, Contains, Any, EachIndex, find, unwrap_or, option_and_then}
use Rattle.std.proofs.lemmas.Bool.{and_parts, eqb-true, eq-eqb}
use Rattle.std.proofs.lemmas.List.{length-map}
use Rattle.ccr_history.specs.declared.build.Status.TheVariants.{Running}
use Rattle.ccr_history.specs.Text.{Text}
use Rattle.ccr_history.specs.Builds.{BuildData, passed_pairs}
use Rattle.ccr_history.specs.History.{HistoryData, IsHistory}
use Rattle.ccr_pipeline.specs.Inputs.{InputData, named_jobs}
use Rattle.ccr_pipeline.specs.Names.{has_name}
use Rattle.ccr_pipeline.specs.Pipelines.{PipelineData}
use Rattle.ccr_choice.specs.Problem.{InputValue, ProblemValue, no_input, input_at, builds_at}
use Rattle.ccr_choice.specs.Satisfies.{Satisfies, IsAllowed, IsSuccessful, Moved, HasPassed, HasPassedAll}
use Rattle.ccr_choice.specs.Preference.{prefers_after, order_of, IsBetter}
use Rattle.ccr_problem.specs.Numbering.{number_of, each_once}
use Rattle.ccr_problem.specs.Passed.{cut_to, build_value, successful, job_value}
use Rattle.ccr_problem.specs.ProblemOf.{history_number, used_resources, input_after, input_value, problem_with}
use Rattle.ccr_problem.specs.Together.{PassedWith, GoTogether, input_order}
use Rattle.ccr_problem.proofs.Among.{Among, among_from, contains_from, among_at, at_among, among_map, map_among, found_by, map_at, map_get, some_at, within_at}
use Rattle.ccr_problem.proofs.Named.{number_at, has_among, among_has, once_has, once_from, named_by, named_has}
use Rattle.ccr_problem.proofs.Cutting.{cut_in, cut_out, succeeded_in, succeeded_out, passed_moved, one_build}
use Rattle.ccr_problem.proofs.Builds.{builds_kept}

abbrev pub no_build : BuildData
no_build = record { job = []; number = 0; status = Running; used = []; moved = [] }

allowed_at : (q : ProblemValue) (places : List ℕ) (i : ℕ) → IsAllowed q places i → Contains (input_at q i).places (slice_index places i)
unfolding IsAllowed
allowed_at q places i h = h

at_allowed : (q : ProblemValue) (places : List ℕ) (i : ℕ) → Contains (input_at q i).places (slice_index places i) → IsAllowed q places i
unfolding IsAllowed
at_allowed q places i h = h

successful_at : (q : ProblemValue) (builds : List ℕ) (j : ℕ) → Any (λ b. b.number ≡ slice_index builds j) (builds_at q j) → IsSuccessful q builds j
unfolding IsSuccessful
successful_at q builds j h = h

-- an input has passed all, by its value
abbrev PassesAll : ProblemValue → List ℕ → ℕ → InputValue → Type 0
PassesAll q builds place x =
    EachIndex x.jobs (λ m. Moved (builds_at q (slice_index x.jobs m)) (slice_index builds (slice_index x.jobs m)) (x.scope, place))

passed_at : (q : ProblemValue) (places builds : List ℕ) (i : ℕ) → HasPassedAll q places builds i → PassesAll q builds (slice_index places i) (input_at q i)
unfolding HasPassedAll HasPassed
passed_at q places builds i h = h

at_passed : (q : ProblemValue) (places builds : List ℕ) (i : ℕ) → PassesAll q builds (slice_index places i) (input_at q i) → HasPassedAll q places builds i
unfolding HasPassedAll HasPassed
at_passed q places builds i h = h

module _ (p : PipelineData) (h : HistoryData) (own : Text) (is : List InputData) where
  abbrev q : ProblemValue
  q = problem_with p h own is

  abbrev R : List Text
  R = used_resources is

  abbrev J : List Text
  J = named_jobs [] is

  abbrev S : List ℕ
  S = map (history_number p h) (used_resources is)

  -- ---- look-ups
  input_there : (k : ℕ) (i : InputData) → slice_get is k ≡ Some i → input_at q k ≡ input_value p h own R J i
  input_there k i at = map_at (input_value p h own R J) is k i no_input at

  scope_there : (k : ℕ) (i : InputData) → slice_get is k ≡ Some i → slice_get S (number_of R i.resource) ≡ Some (history_number p h i.resource)
  scope_there k i at =
      let used : has_name R i.resource ≡ true = once_has (map (λ i. i.resource) is) i.resource (among_map (λ i. i.resource) is i (among_at is k i at)) in
      map_get (history_number p h) R (number_of R i.resource) i.resource (number_at R i.resource used)

  builds_there : (t : Text) → has_name J t ≡ true → builds_at q (number_of J t) ≡ job_value h.builds S t
  builds_there t has = map_at (job_value h.builds S) J (number_of J t) t [] (number_at J t has)

  many : length q.inputs ≡ length is
  many = length-map is (input_value p h own R J)

  -- ---- what goes together satisfies
  module _ (through : Text → BuildData) (places : List ℕ) (g : GoTogether p h is through places) where
    abbrev N : List ℕ
    N = map (λ t. (through t).number) (named_jobs [] is)

    numbered : (t : Text) → has_name J t ≡ true → slice_index N (number_of J t) ≡ (through t).number
    numbered t has = map_at (λ t. (through t).number) J (number_of J t) t 0 (number_at J t has)

    -- the build of a job is in the problem
    shown : (t : Text) (scope place : ℕ) → PassedWith h t (through t) scope place → Among (job_value h.builds S t) (build_value S (through t))
    shown t scope place w =
        among_map (build_value S) (successful t h.builds) (through t) (succeeded_in t h.builds (through t) (among_from h.builds (through t) w.made) w.of_job w.succeeded)

    moved_so : (t : Text) (scope place a : ℕ) → PassedWith h t (through t) scope place → slice_get S a ≡ Some scope → Moved (job_value h.builds S t) (through t).number (a, place)
    moved_so t scope place a w at =
        let (k, within, there) = contains_from (job_value h.builds S t) (build_value S (through t)) (shown t scope place w) in
        let pairs : Among (passed_pairs (through t)) (scope, place) = subst (λ l. Among l (scope, place)) (sym (passed_moved (through t) w.succeeded)) (among_from (through t).moved (scope, place) w.moved) in
        (k, build_value S (through t), within, there, (refl, contains_from (cut_to S (passed_pairs (through t))) (a, place) (cut_in (passed_pairs (through t)) S a scope place at pairs)))

    passes : (k : ℕ) (i : InputData) → slice_get is k ≡ Some i → PassesAll q N (slice_index places k) (input_value p h own R J i)
    passes k i at m within =
        let T : List Text = each_once i.passed in
        let inside : m < length T = omega (arith, within, length-map (each_once i.passed) (number_of J)) in
        let (t, here) = some_at (each_once i.passed) m inside in
        let named : Among i.passed t = once_from i.passed t (among_at (each_once i.passed) m t here) in
        let has : has_name J t ≡ true = named_has [] is k i t at named in
        let number : slice_index (map (number_of J) (each_once i.passed)) m ≡ number_of J t = map_at (number_of J) (each_once i.passed) m t 0 here in
        let moved = moved_so t (history_number p h i.resource) (slice_index places k) (number_of R i.resource) (g.passed k i t at (contains_from i.passed t named)) (scope_there k i at) in
        subst (λ j. Moved (builds_at q j) (slice_index N j) (number_of R i.resource, slice_index places k)) (sym number)
        (subst (λ bs. Moved bs (slice_index N (number_of J t)) (number_of R i.resource, slice_index places k)) (sym (builds_there t has))
        (subst (λ n. Moved (job_value h.builds S t) n (number_of R i.resource, slice_index places k)) (sym (numbered t has)) moved))

    succeeds : (j : ℕ) → j < length q.jobs → Any (λ b. b.number ≡ slice_index N j) (builds_at q j)
    succeeds j within =
        let inside : j < length J = omega (arith, within, length-map J (job_value h.builds S)) in
        let (t, here) = some_at J j inside in
        let (k, i, at, named) = named_by is t (among_has J t (among_at J j t here)) in
        let w = g.passed k i t at (contains_from i.passed t named) in
        let (m, less, there) = contains_from (job_value h.builds S t) (build_value S (through t)) (shown t (history_number p h i.resource) (slice_index places k) w) in
        subst (λ bs. Any (λ b. b.number ≡ slice_index N j) bs) (sym (map_at (job_value h.builds S) J j t [] here))
        (subst (λ n. Any (λ b. b.number ≡ n) (job_value h.builds S t)) (sym (map_at (λ t. (through t).number) J j t 0 here)) (m, build_value S (through t), less, there, refl))

    pub satisfies_so : Satisfies (problem_with p h own is) places (map (λ t. (through t).number) (named_jobs [] is))
    satisfies_so = record {
      lengths = record { place_each = g.place_each ∙ sym many; build_each = length-map J (λ t. (through t).number) ∙ sym (length-map J (job_value h.builds S)) };
      allowed = λ k within. (
          let (i, at) = some_at is k (omega (arith, within, many)) in
          at_allowed q places k (subst (λ x. Contains x.places (slice_index places k)) (sym (input_there k i at)) (g.allowed k i at))
          );
      successful = λ j within. successful_at q N j (succeeds j within);
      passed = λ k within. (
          let (i, at) = some_at is k (omega (arith, within, many)) in
          at_passed q places N k (subst (PassesAll q N (slice_index places k)) (sym (input_there k i at)) (passes k i at))
          );
    }

  -- ---- what satisfies goes together
  module _ (is_history : IsHistory h) (places builds : List ℕ) (s : Satisfies (problem_with p h own is) places builds) where
    abbrev number : Text → ℕ
    number t = slice_index builds (number_of (named_jobs [] is) t)

    abbrev pub chosen_build : Text → BuildData
    chosen_build t = unwrap_or (find (λ x. x.number == slice_index builds (number_of (named_jobs [] is) t)) (successful t h.builds)) no_build

    -- what moved in the problem has passed
    passed_so : (t : Text) (a scope place : ℕ) → slice_get S a ≡ Some scope → Moved (job_value h.builds S t) (number t) (a, place) → PassedWith h t (chosen_build t) scope place
    passed_so t a scope place at (k, v, within, there, (numbered, pairs)) =
        let in_ : Among (job_value h.builds S t) v = among_from (job_value h.builds S t) v (k, within, there) in
        let (x, mine, shows) = map_among (build_value S) (successful t h.builds) v in_ in
        let number_x : x.number ≡ number t = ap (λ y. y.number) shows ∙ numbered in
        let (y, found, yours, test) = found_by (λ x. x.number == number t) (successful t h.builds) x mine (eq-eqb x.number (number t) number_x) in
        let number_y : y.number ≡ number t = eqb-true y.number (number t) test in
        let kept = builds_kept t S (length S) h is_history (omega arith) in
        let one : build_value S y ≡ v = one_build _ _ (job_value h.builds S t) (build_value S y) v (and_parts _ _ kept).1 (among_map (build_value S) (successful t h.builds) y yours) in_ (number_y ∙ sym numbered) in
        let (made, job, status) = succeeded_out t h.builds y yours in
        let has : Among (cut_to S (passed_pairs y)) (a, place) = among_from (cut_to S (passed_pairs y)) (a, place) (subst (λ z. Contains z.pairs (a, place)) (sym one) pairs) in
        let moved : Among y.moved (scope, place) = subst (λ l. Among l (scope, place)) (passed_moved y status) (cut_out (passed_pairs y) S a scope place at has) in
        subst (λ o. PassedWith h t (unwrap_or o no_build) scope place) (sym found)
        (record { made = contains_from h.builds y made; of_job = job; succeeded = status; moved = contains_from y.moved (scope, place) moved })

    pub together_so : GoTogether p h is chosen_build places
    together_so = record {
      place_each = s.lengths.place_each ∙ many;
      allowed = λ k i at. (
          let within : k < length q.inputs = omega (arith, within_at is k i at, many) in
          subst (λ x. Contains x.places (slice_index places k)) (input_there k i at) (allowed_at q places k (s.allowed k within))
          );
      passed = λ k i t at named. (
          let within : k < length q.inputs = omega (arith, within_at is k i at, many) in
          let among : Among i.passed t = among_from i.passed t named in
          let has : has_name J t ≡ true = named_has [] is k i t at among in
          let (m, here) = at_among (each_once i.passed) t (has_among (each_once i.passed) t (once_has i.passed t among)) in
          let all : PassesAll q builds (slice_index places k) (input_value p h own R J i) = subst (PassesAll q builds (slice_index places k)) (input_there k i at) (passed_at q places builds k (s.passed k within)) in
          let inside : m < length (map (number_of J) (each_once i.passed)) = omega (arith, within_at (each_once i.passed) m t here, length-map (each_once i.passed) (number_of J)) in
          let numbered : slice_index (map (number_of J) (each_once i.passed)) m ≡ number_of J t = map_at (number_of J) (each_once i.passed) m t 0 here in
          let now = subst (λ j. Moved (builds_at q j) (slice_index builds j) (number_of R i.resource, slice_index places k)) numbered (all m inside) in
          passed_so t (number_of R i.resource) (history_number p h i.resource) (slice_index places k) (scope_there k i at)
          (subst (λ bs. Moved bs (number t) (number_of R i.resource, slice_index places k)) (builds_there t has) now)
          );
    }

  -- ---- the order is that of the problem
  after_at : (is : List InputData) (rs js : List Text) (k : ℕ) → (slice_index_or (map (input_value p h own rs js) is) k no_input).after ≡ option_and_then (input_after p h own) (slice_get is k)
  after_at [] rs js k = refl
  after_at (i ∷ is) rs js zero = refl
  after_at (i ∷ is) rs js (suc k) = after_at is rs js k

  pub order_same : (k : ℕ) → order_of (problem_with p h own is) k ≡ input_order p h own is k
  order_same k = ap prefers_after (after_at is R J k)

  pub better_in_problem : (xs ys : List ℕ) → IsBetter (input_order p h own is) xs ys → IsBetter (order_of (problem_with p h own is)) xs ys
  better_in_problem xs ys b = record {
    first = b.first;
    within = b.within;
    reached = b.reached;
    same_before = b.same_before;
    preferred = ap (λ f. f (slice_index xs b.first) (slice_index ys b.first)) (order_same b.first) ∙ b.preferred;
  }

  pub better_by_inputs : (xs ys : List ℕ) → IsBetter (order_of (problem_with p h own is)) xs ys → IsBetter (input_order p h own is) xs ys
  better_by_inputs xs ys b = record {
    first = b.first;
    within = b.within;
    reached = b.reached;
    same_before = b.same_before;
    preferred = ap (λ f. f (slice_index xs b.first) (slice_index ys b.first)) (sym (order_same b.first)) ∙ b.preferred;
  }
