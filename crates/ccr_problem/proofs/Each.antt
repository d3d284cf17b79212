-- Index by index.
use Rattle.std.proofs.Common.{◌≡◌, ℕ, zero, suc, ◌+◌, ◌<◌, ◌≤◌, List, [], ◌∷◌, ◌++◌, length, map, take, drop, get_or, slice_get, Bool, true, false, not, cond, ◌⊎◌, inl, inr, Some, None, subst, Result, Ok, Err, OnOk, OnErr, IsOk, refl, sym, ap, ◌∙◌, arith}
use Rattle.std.specs.Prelude.{find, IsSomeAnd}
use Rattle.std.specs.List.{position_or_len}
use Rattle.std.specs.Str.{bytes_eq}
use Rattle.std.proofs.lemmas.Bool.{cases_lt}
use Rattle.std.proofs.lemmas.List.{length-map, get_or-map, same_lists, take_at}
use Rattle.std.proofs.lemmas.Option.{get_or_from_slice_get, slice_get_within}
use Rattle.ccr_history.specs.Text.{Text}
use Rattle.ccr_history.specs.History.{HistoryData}
use Rattle.ccr_pipeline.specs.Inputs.{inputs, are_few}
use Rattle.ccr_pipeline.specs.JobData.{JobData, job_data}
use Rattle.ccr_pipeline.specs.Pipelines.{PipelineData}
use Rattle.ccr_pipeline.specs.declared.resource.Job.{Job}
use Rattle.ccr_choice.specs.Problem.{ProblemValue}
use Rattle.ccr_index.specs.Index.{IndexValue}
use Rattle.ccr_problem.specs.ProblemOf.{job_of, problem_with, IsProblemOf}
use Rattle.ccr_problem.specs.Indexes.{problems, problems_of, AreIndexes}

abbrev no_problem : ProblemValue
no_problem = record { inputs = []; jobs = [] }

abbrev no_index : IndexValue
no_index = record { problem = no_problem; spare_places = 0; spare_pairs = 0 }

pub some_at : {X : Type 0} (xs : List X) (k : ℕ) → k < length xs → (x : X) × (slice_get xs k ≡ Some x)
some_at [] k within = absurd (omega arith)
some_at (x ∷ xs) zero within = (x, refl)
some_at (x ∷ xs) (suc k) within = some_at xs k (omega arith)

-- what a map gives at a position
pub mapped_at : {X Y : Type 0} (f : X → Y) (xs : List X) (k : ℕ) (x : X) (d : Y) → slice_get xs k ≡ Some x → get_or (map f xs) k d ≡ f x
mapped_at f xs k x d at = get_or-map f xs k x d (slice_get_within xs k x at) ∙ ap f (get_or_from_slice_get xs k x x at)

module _ (p : PipelineData) (h : HistoryData) (xs : List IndexValue) where
  abbrev F : JobData → ProblemValue
  F j = problem_with p h j.name (inputs j.plan)

  pub as_many : AreIndexes p h xs → length xs ≡ length p.jobs
  as_many are = sym (length-map xs (λ x. x.problem)) ∙ ap length are ∙ length-map p.jobs F

  -- each index is that of the job at its position
  pub index_at : AreIndexes p h xs → (k : ℕ) (j : JobData) (d : IndexValue) → slice_get p.jobs k ≡ Some j → (get_or xs k d).problem ≡ problem_with p h j.name (inputs j.plan)
  index_at are k j d at =
      let within : k < length xs = omega (arith, as_many are, slice_get_within p.jobs k j at) in
      sym (get_or-map (λ x. x.problem) xs k d no_problem within) ∙ ap (λ l. get_or l k no_problem) are ∙ mapped_at F p.jobs k j no_problem at

  -- where each is, they are all
  pub from_each : length xs ≡ length p.jobs → ((k : ℕ) (j : JobData) (d : IndexValue) → slice_get p.jobs k ≡ Some j → (get_or xs k d).problem ≡ problem_with p h j.name (inputs j.plan)) → AreIndexes p h xs
  from_each many each =
      let left = length-map xs (λ x. x.problem) in
      let right = length-map p.jobs F in
      same_lists (problems xs) (problems_of p h) (left ∙ many ∙ sym right) (λ k d within.
      let inside : k < length p.jobs = omega (arith, within, left, many) in
      let found = some_at p.jobs k inside in
      get_or-map (λ x. x.problem) xs k no_index d (omega (arith, inside, many)) ∙ each k found.0 no_index found.1 ∙ sym (mapped_at F p.jobs k found.0 d found.1))

-- the inputs of each job are few
pub few_at : (js : List Job) (k : ℕ) (j : JobData) → slice_get (map job_data js) k ≡ Some j → are_few (inputs j.plan) ≡ true
few_at [] k j at = absurd (cc)
few_at (x ∷ js) zero j at = let same : job_data x ≡ j = cc in ap (λ (y : JobData). are_few (inputs y.plan)) (sym same) ∙ x.few
few_at (x ∷ js) (suc k) j at = few_at js k j at

-- a slice that was written is there as it was left
pub written : {X : Type 0} (ys xs : List X) (n : ℕ) → n ≡ length xs → length ys ≡ length xs → take n (ys ++ drop (length ys) xs) ≡ ys
written ys xs n e same = take_at ys (drop (length ys) xs) n (same ∙ sym e)

-- what is left where a call succeeds
pub on_is_ok : {T E P : Type 0} (r : Result T E) → OnOk r P → IsOk r → P
on_is_ok (Ok x) h ok = h
on_is_ok (Err e) h ok = absurd (cc)

pub on_err_weaker : {T E P Q : Type 0} (r : Result T E) → (P → Q) → OnErr r P → OnErr r Q
on_err_weaker (Ok x) f h = tt
on_err_weaker (Err e) f h = f h

-- indexes that stand for the same problems, one by one
pub same_problems : (xs ys : List IndexValue) → length ys ≡ length xs → ((k : ℕ) (d : IndexValue) → k < length xs → (get_or ys k d).problem ≡ (get_or xs k d).problem) → problems ys ≡ problems xs
same_problems xs ys many each =
    let left = length-map ys (λ x. x.problem) in
    let right = length-map xs (λ x. x.problem) in
    same_lists (problems ys) (problems xs) (left ∙ many ∙ sym right) (λ k d within.
    let inside : k < length xs = omega (arith, within, left, many) in
    get_or-map (λ x. x.problem) ys k no_index d (omega (arith, inside, many)) ∙ each k no_index inside ∙ sym (get_or-map (λ x. x.problem) xs k no_index d inside))

-- ---- the job of a name
-- what stands where the first that passes does
pub first_at : {X : Type 0} (t : X → Bool) (xs : List X) → slice_get xs (position_or_len t xs) ≡ find t xs
first_at t [] = refl
first_at t (x ∷ xs) = by (t x) (first_at t xs)
  where
    by : (b : Bool) → slice_get xs (position_or_len t xs) ≡ find t xs → slice_get (x ∷ xs) (cond (not b) (1 + position_or_len t xs) 0) ≡ cond b (Some x) (find t xs)
    by true rec = refl
    by false rec = let e : 1 + position_or_len t xs ≡ suc (position_or_len t xs) = omega arith in ap (slice_get (x ∷ xs)) e ∙ rec

module _ (p : PipelineData) (h : HistoryData) (xs : List IndexValue) (are : AreIndexes p h xs) (name : Text) (k : ℕ) (at : k ≡ position_or_len (λ (j : JobData). bytes_eq name j.name) p.jobs) where
  found : slice_get p.jobs k ≡ job_of name p.jobs
  found = ap (slice_get p.jobs) at ∙ first_at (λ (j : JobData). bytes_eq name j.name) p.jobs

  -- the index that stands there is that of the job
  pub of_job_so : (x : IndexValue) → slice_get xs k ≡ Some x → IsProblemOf p h name x.problem
  of_job_so x here =
      let there = some_at p.jobs k (omega (arith, slice_get_within xs k x here, as_many p h xs are)) in
      let job : job_of name p.jobs ≡ Some there.0 = sym found ∙ there.1 in
      subst (λ o. IsSomeAnd o (λ j. x.problem ≡ problem_with p h j.name (inputs j.plan))) (sym job)
      (ap (λ (y : IndexValue). y.problem) (sym (get_or_from_slice_get xs k x x here)) ∙ index_at p h xs are k there.0 x there.1)

  -- where none stands there, there is no such job
  pub no_job_so : slice_get xs k ≡ None → job_of name p.jobs ≡ None
  no_job_so none = sym found ∙ by (cases_lt k (length p.jobs))
    where
      past_end : (js : List JobData) (n : ℕ) → length js ≤ n → slice_get js n ≡ None
      past_end [] n past = refl
      past_end (j ∷ js) zero past = absurd (omega (arith, past))
      past_end (j ∷ js) (suc n) past = past_end js n (omega (arith, past))

      by : (k < length p.jobs) ⊎ (length p.jobs ≤ k) → slice_get p.jobs k ≡ None
      by (inl less) = let there = some_at xs k (omega (arith, less, as_many p h xs are)) in absurd (cc (sym none ∙ there.1))
      by (inr past) = past_end p.jobs k past
