-- The problem of a job keeps the rules of every problem.
use Rattle.std.proofs.Common.{◌≡◌, ℕ, ◌≤◌, List, [], ◌∷◌, length, map, true, refl, sym, ap, ap₂, ◌∙◌, subst, arith}
use Rattle.std.specs.List.{list_all}
use Rattle.std.proofs.lemmas.Bool.{and_from, and_parts, le-leb, leb-true, eq-eqb}
use Rattle.std.proofs.lemmas.List.{length-map}
use Rattle.ccr_history.specs.Text.{Text}
use Rattle.ccr_history.specs.History.{HistoryData, IsHistory}
use Rattle.ccr_pipeline.specs.Inputs.{InputData, named_jobs, are_few}
use Rattle.ccr_pipeline.specs.Names.{with_name, with_names}
use Rattle.ccr_pipeline.specs.Pipelines.{PipelineData}
use Rattle.ccr_choice.specs.Problem.{InputValue, BuildValue, used_after, are_distinct, are_numbered, are_inputs, scopes_after, jobs_after, are_builds, IsProblem}
use Rattle.ccr_problem.specs.Numbering.{each_once, number_of}
use Rattle.ccr_problem.specs.Passed.{job_value}
use Rattle.ccr_problem.specs.ProblemOf.{history_number, used_resources, input_value, problem_with}
use Rattle.ccr_problem.proofs.Builds.{builds_kept}
use Rattle.ccr_problem.proofs.Names.{Begins, begins_all, begins_named, length-with_names, with_names-once, apart, all_there}
use Rattle.ccr_problem.proofs.Numbers.{scope_numbered, jobs_numbered, jobs_distinct}
use Rattle.ccr_problem.proofs.Afters.{after_kept}
use Rattle.ccr_problem.proofs.Places.{places_kept}

-- the names of the inputs' resources
abbrev resource_names : List InputData → List Text
resource_names is = map (λ i. i.resource) is

module _ (p : PipelineData) (h : HistoryData) (own : Text) (is_history : IsHistory h) (resources jobs : List Text) (few : length jobs ≤ 32) where
  -- the jobs that an input names
  named_kept : (named passed : List Text) → Begins (with_names named passed) jobs
      → (are_distinct (map (number_of jobs) (each_once passed)) ≡ true)
      × (are_numbered (length named) (map (number_of jobs) (each_once passed)) ≡ true)
      × (used_after (length named) (map (number_of jobs) (each_once passed)) ≡ length (with_names named passed))
  named_kept named passed b =
      let same : with_names named (each_once passed) ≡ with_names named passed = with_names-once named passed in
      let begins : Begins (with_names named (each_once passed)) jobs = subst (λ names. Begins names jobs) (sym same) b in
      let numbered = jobs_numbered named (each_once passed) jobs begins few in
      (jobs_distinct jobs (each_once passed) (apart [] passed tt) (all_there named (each_once passed) jobs begins), numbered.0, numbered.1 ∙ ap length same)

  inputs_kept : (seen named : List Text) (is : List InputData) → resources ≡ with_names seen (resource_names is) → jobs ≡ named_jobs named is
      → (are_inputs (length seen) (length named) (map (input_value p h own resources jobs) is) ≡ true)
      × (scopes_after (length seen) (map (input_value p h own resources jobs) is) ≡ length resources)
      × (jobs_after (length named) (map (input_value p h own resources jobs) is) ≡ length jobs)
  inputs_kept seen named [] e d = (refl, sym (ap length e), sym (ap length d))
  inputs_kept seen named (i ∷ is) e d =
      let seen_after : List Text = with_name seen i.resource in
      let named_after : List Text = with_names named i.passed in
      let all_seen : Begins seen_after resources = subst (Begins seen_after) (sym e) (begins_all seen_after (resource_names is)) in
      let all_named : Begins named_after jobs = subst (Begins named_after) (sym d) (begins_named named_after is) in
      let scope = scope_numbered seen resources i.resource all_seen in
      let named_here = named_kept named i.passed all_named in
      let rest = inputs_kept seen_after named_after is e d in
      let values : List InputValue = map (input_value p h own resources jobs) is in
      let here = and_from _ _ (le-leb _ _ scope.0) (and_from _ _ named_here.0 (and_from _ _ named_here.1 (and_from _ _ (after_kept p h own i is_history) (places_kept p h i is_history)))) in (
        and_from _ _ here (ap (λ u. are_inputs u (used_after (length named) (map (number_of jobs) (each_once i.passed))) values) scope.1
            ∙ ap (λ u. are_inputs (length seen_after) u values) named_here.2 ∙ rest.0),
        ap (λ u. scopes_after u values) scope.1 ∙ rest.1,
        ap (λ u. jobs_after u values) named_here.2 ∙ rest.2,
      )

  -- the builds of each named job
  jobs_kept : (n : ℕ) (scopes : List ℕ) (names : List Text) → length scopes ≤ n
      → list_all (are_builds n) (map (job_value h.builds scopes) names) ≡ true
  jobs_kept n scopes [] short = refl
  jobs_kept n scopes (job ∷ names) short = and_from _ _ (builds_kept job scopes n h is_history short) (jobs_kept n scopes names short)

-- The problem of few inputs, which name few jobs, keeps the rules.
pub problem_kept : (p : PipelineData) (h : HistoryData) (own : Text) (is : List InputData) → IsHistory h → are_few is ≡ true → IsProblem (problem_with p h own is)
problem_kept p h own is is_history few =
    let parts = and_parts _ _ few in
    let few_inputs : length is ≤ 32 = leb-true _ _ parts.0 in
    let few_jobs : length (named_jobs [] is) ≤ 32 = leb-true _ _ parts.1 in
    let resources : List Text = used_resources is in
    let jobs : List Text = named_jobs [] is in
    let scopes : List ℕ = map (history_number p h) resources in
    let inputs = inputs_kept p h own is_history resources jobs few_jobs [] [] is refl refl in
    let values : List InputValue = map (input_value p h own resources jobs) is in
    let builds : List (List BuildValue) = map (job_value h.builds scopes) jobs in
    let many : length values ≡ length is = length-map is (input_value p h own resources jobs) in
    let all : length builds ≡ length jobs = length-map jobs (job_value h.builds scopes) in
    let short : length scopes ≡ length resources = length-map resources (history_number p h) in
    let kept = jobs_kept p h own is_history resources jobs few_jobs (length resources) scopes jobs (omega arith) in
    and_from _ _ (le-leb _ _ (omega arith)) (and_from _ _ inputs.0 (and_from _ _ (eq-eqb _ _ (all ∙ sym inputs.2))
    (ap (λ n. list_all (are_builds n) builds) inputs.1 ∙ kept)))

-- The scopes of few inputs are few.
pub few_resources : (is : List InputData) → are_few is ≡ true → length (used_resources is) ≤ 32
few_resources is few =
    let few_inputs : length is ≤ 32 = leb-true _ _ (and_parts _ _ few).0 in
    omega (arith, length-with_names [] (resource_names is), length-map is (λ i. i.resource))

-- What is made of the parts one by one is the problem.
pub problem_made : (p : PipelineData) (h : HistoryData) (own : Text) (is : List InputData) (resources jobs : List Text) (scopes : List ℕ) (values : List InputValue) (builds : List (List BuildValue))
    → resources ≡ used_resources is → jobs ≡ named_jobs [] is → scopes ≡ map (history_number p h) resources → values ≡ map (input_value p h own resources jobs) is
    → builds ≡ map (job_value h.builds scopes) jobs → record { inputs = values; jobs = builds } ≡ problem_with p h own is
problem_made p h own is resources jobs scopes values builds a b c d e =
    let numbers : scopes ≡ map (history_number p h) (used_resources is) = c ∙ ap (map (history_number p h)) a in
    ap₂ (λ vs bs. record { inputs = vs; jobs = bs }) (d ∙ ap₂ (λ rs js. map (input_value p h own rs js) is) a b)
    (e ∙ ap₂ (λ ns js. map (job_value h.builds ns) js) numbers b)
