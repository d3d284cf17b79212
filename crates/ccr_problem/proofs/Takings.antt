-- Places that come to inputs with a build that is made.
use Rattle.std.proofs.Common.{◌≡◌, ℕ, zero, suc, ◌<◌, ◌≤◌, List, [], ◌∷◌, length, map, take, get_or, slice_get, slice_index_or, slice_set, Bool, true, false, cond, Option, Some, None, refl, sym, ap, ap₂, ◌∙◌, subst, arith}
use Rattle.std.specs.Str.{bytes_eq}
use Rattle.std.proofs.lemmas.List.{length-map, set-get_or}
use Rattle.std.proofs.lemmas.Option.{slice_get_within}
use Rattle.ccr_history.specs.Text.{Text}
use Rattle.ccr_history.specs.Builds.{UsedData}
use Rattle.ccr_history.specs.Changes.{build, edited, AreUsed}
use Rattle.ccr_history.specs.History.{HistoryData, IsHistory}
use Rattle.ccr_pipeline.specs.Inputs.{InputData, inputs, named_jobs}
use Rattle.ccr_pipeline.specs.JobData.{JobData}
use Rattle.ccr_pipeline.specs.Pipelines.{PipelineData}
use Rattle.ccr_choice.specs.Problem.{InputValue, ProblemValue, no_input, is_after}
use Rattle.ccr_index.specs.Index.{IndexValue}
use Rattle.ccr_problem.specs.Follows.{MadeBrings, place_taken, with_afters}
use Rattle.ccr_problem.specs.ProblemOf.{used_resources, input_value, problem_with}
use Rattle.ccr_problem.proofs.Afters.{taken_kept}
use Rattle.ccr_problem.specs.Indexes.{AreIndexes}
use Rattle.ccr_problem.specs.Passing.{taken_by, after_with, with_one, with_taken, AreAfters}
use Rattle.ccr_problem.proofs.Each.{some_at, mapped_at, as_many, index_at, from_each}

-- ---- input by input
pub afters_none : (xs : List InputValue) → with_afters xs [] ≡ xs
afters_none [] = refl
afters_none (x ∷ xs) = refl

pub length-afters : (xs : List InputValue) (us : List (Option ℕ)) → length (with_afters xs us) ≡ length xs
length-afters [] us = refl
length-afters (x ∷ xs) [] = refl
length-afters (x ∷ xs) (u ∷ us) = ap (λ n. suc n) (length-afters xs us)

-- one input more
pub afters_step : (xs : List InputValue) (us : List (Option ℕ)) (i : ℕ) → i < length us
    → with_afters xs (take (suc i) us) ≡ slice_set (with_afters xs (take i us)) i (after_with (slice_index_or (with_afters xs (take i us)) i no_input) (slice_index_or us i None))
afters_step [] us i within = refl
afters_step (x ∷ xs) [] i within = absurd (omega arith)
afters_step (x ∷ xs) (u ∷ us) zero within = ap (λ ys. after_with x u ∷ ys) (afters_none xs)
afters_step (x ∷ xs) (u ∷ us) (suc i) within = ap (λ ys. after_with x u ∷ ys) (afters_step xs us i (omega arith))

-- an input to which none comes stays
pub none_kept : (q : ProblemValue) (i : ℕ) → q ≡ with_one q i None
none_kept q i = ap {B = ProblemValue} (λ xs. record { inputs = xs; jobs = q.jobs }) (sym (set-get_or q.inputs i no_input))

pub each_after : (us : List (Option ℕ)) (i : ℕ) (d : Option ℕ) → AreAfters us → i < length us → is_after (get_or us i d) ≡ true
each_after [] i d all within = absurd (omega arith)
each_after (u ∷ us) zero d all within = all.0
each_after (u ∷ us) (suc i) d all within = each_after us i d all.1 (omega arith)

-- ---- job by job
-- where nothing comes to any of them, they stay
afters_nothing : (xs : List InputValue) (is : List InputData) → with_afters xs (map (λ _. None) is) ≡ xs
afters_nothing [] is = refl
afters_nothing (x ∷ xs) [] = refl
afters_nothing (x ∷ xs) (i ∷ is) = ap (λ ys. x ∷ ys) (afters_nothing xs is)

module _ (p : PipelineData) (h : HistoryData) (name : Text) (used : List UsedData) (brings : MadeBrings) (rules : IsHistory h) (given : AreUsed h.tables used) where
  abbrev made : HistoryData
  made = edited (build name used) h

  -- the problem afterwards is the one before with what comes to it
  pub made_follows : (j : JobData) → with_taken (problem_with p h j.name (inputs j.plan)) (taken_by p h name used j) ≡ problem_with p made j.name (inputs j.plan)
  made_follows j =
      ap {B = ProblemValue} (λ xs. record { inputs = xs; jobs = (problem_with p h j.name (inputs j.plan)).jobs }) (by (bytes_eq j.name name))
      ∙ sym (brings p h j.name (inputs j.plan) name used given.0)
    where
      by : (b : Bool) → with_afters (problem_with p h j.name (inputs j.plan)).inputs (cond b (map (place_taken p h used) (inputs j.plan)) [])
          ≡ with_afters (problem_with p h j.name (inputs j.plan)).inputs (map (λ i. cond b (place_taken p h used i) None) (inputs j.plan))
      by true = refl
      by false = afters_none (problem_with p h j.name (inputs j.plan)).inputs ∙ sym (afters_nothing (problem_with p h j.name (inputs j.plan)).inputs (inputs j.plan))

  taken_each : (is : List InputData) → AreAfters (map (place_taken p h used) is)
  taken_each [] = tt
  taken_each (i ∷ is) = (taken_kept p h used i rules given.1, taken_each is)

  pub taken_rules : (j : JobData) → AreAfters (taken_by p h name used j)
  taken_rules j = by (bytes_eq j.name name)
    where
      by : (b : Bool) → AreAfters (cond b (map (place_taken p h used) (inputs j.plan)) [])
      by true = taken_each (inputs j.plan)
      by false = tt

  pub taken_few : (j : JobData) → length (taken_by p h name used j) ≤ length (problem_with p h j.name (inputs j.plan)).inputs
  taken_few j =
      let many = length-map (inputs j.plan) (input_value p h j.name (used_resources (inputs j.plan)) (named_jobs [] (inputs j.plan))) in
      let some = length-map (inputs j.plan) (place_taken p h used) in
      omega (arith, many, by (bytes_eq j.name name) some)
    where
      by : (b : Bool) → length (map (place_taken p h used) (inputs j.plan)) ≡ length (inputs j.plan) → length (cond b (map (place_taken p h used) (inputs j.plan)) []) ≤ length (inputs j.plan)
      by true same = omega (arith, same)
      by false same = omega arith

  module _ (xs : List IndexValue) (are : AreIndexes p h xs) (more : List (List (Option ℕ))) (is : more ≡ map (taken_by p h name used) p.jobs) where
    pub taken_many : length more ≡ length xs
    taken_many = ap length is ∙ length-map p.jobs (taken_by p h name used) ∙ sym (as_many p h xs are)

    abbrev At : ℕ → Type 0
    At k = (j : JobData) × (slice_get p.jobs k ≡ Some j) × (slice_index_or more k [] ≡ taken_by p h name used j)

    at : (k : ℕ) → k < length xs → At k
    at k within =
        let found = some_at p.jobs k (omega (arith, within, as_many p h xs are)) in
        (found.0, found.1, ap (λ l. slice_index_or l k []) is ∙ mapped_at (taken_by p h name used) p.jobs k found.0 [] found.1)

    pub all_few : (k : ℕ) (d : IndexValue) → k < length xs → length (slice_index_or more k []) ≤ length (slice_index_or xs k d).problem.inputs
    all_few k d within =
        let (j, here, taken) = at k within in
        let was = ap (λ (q : ProblemValue). length q.inputs) (index_at p h xs are k j d here) in
        omega (arith, ap length taken, was, taken_few j)

    pub all_rules : (k : ℕ) → k < length xs → AreAfters (slice_index_or more k [])
    all_rules k within = let (j, here, taken) = at k within in subst AreAfters (sym taken) (taken_rules j)

    pub made_so : (ys : List IndexValue) → length ys ≡ length xs
        → ((k : ℕ) (d : IndexValue) → k < length xs → (slice_index_or ys k d).problem ≡ with_taken (slice_index_or xs k d).problem (slice_index_or more k [])) → AreIndexes p made ys
    made_so ys many each =
        from_each p made ys (many ∙ as_many p h xs are) (λ k j d here.
        let within : k < length xs = omega (arith, as_many p h xs are, slice_get_within p.jobs k j here) in
        let taken = ap (λ l. slice_index_or l k []) is ∙ mapped_at (taken_by p h name used) p.jobs k j [] here in
        each k d within ∙ ap₂ with_taken (index_at p h xs are k j d here) taken ∙ made_follows j)
