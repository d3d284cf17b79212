-- What the end of a build does to indexes.
use Rattle.std.proofs.Common.{◌≡◌, ℕ, suc, ◌+◌, ◌<◌, List, [], ◌∷◌, length, map, slice_get, slice_index_or, Bool, true, false, not, ◌||◌, cond, Option, Some, None, refl, sym, ap₂, ◌∙◌, subst, arith}
use Rattle.std.specs.Str.{bytes_eq}
use Rattle.std.proofs.lemmas.Bool.{false≢true}
use Rattle.std.proofs.lemmas.List.{length-map}
use Rattle.std.proofs.lemmas.Option.{slice_get_within}
use Rattle.ccr_history.specs.declared.build.Status.{Status}
use Rattle.ccr_history.specs.declared.build.Status.TheVariants.{Running, Succeeded, Failed, Errored, Aborted}
use Rattle.ccr_history.specs.Text.{Text}
use Rattle.ccr_history.specs.Builds.{is_succeeded, by_place}
use Rattle.ccr_history.specs.Changes.{ended, edited, IsRunning}
use Rattle.ccr_history.specs.History.{HistoryData, IsHistory}
use Rattle.ccr_pipeline.specs.Inputs.{InputData, inputs, named_jobs, are_few}
use Rattle.ccr_pipeline.specs.JobData.{JobData}
use Rattle.ccr_pipeline.specs.Names.{has_name}
use Rattle.ccr_pipeline.specs.Pipelines.{PipelineData}
use Rattle.ccr_choice.specs.Problem.{BuildValue, IsProblem}
use Rattle.ccr_index.specs.Index.{IndexValue}
use Rattle.ccr_problem.specs.Follows.{UnsuccessfulEndLeaves, SuccessAdds, has_newer, with_passed}
use Rattle.ccr_problem.specs.Numbering.{number_of}
use Rattle.ccr_problem.specs.Passed.{cut_to, job_value}
use Rattle.ccr_problem.specs.ProblemOf.{history_number, used_resources, problem_with}
use Rattle.ccr_problem.proofs.Kept.{problem_kept}
use Rattle.ccr_problem.specs.Indexes.{AreIndexes, IsBrought, brought_to}
use Rattle.ccr_problem.specs.Passing.{CanTake, CanAllTake}
use Rattle.ccr_problem.proofs.Each.{some_at, as_many, index_at, from_each}

-- a name that is there has a number below their count
below_by : (b : Bool) (n m : ℕ) (rest : Bool) → (b || rest) ≡ true → (rest ≡ true → n < m) → cond (not b) (1 + n) 0 < suc m
below_by true n m rest h rec = omega arith
below_by false n m rest h rec = omega (arith, rec h)

below : (names : List Text) (name : Text) → has_name names name ≡ true → number_of names name < length names
below [] name h = absurd (false≢true h)
below (x ∷ xs) name h = below_by (bytes_eq name x) (number_of xs name) (length xs) (has_name xs name) h (below xs name)

module _ (p : PipelineData) (h : HistoryData) (job : Text) (number : ℕ) (status : Status) (moved : List (ℕ × ℕ))
    (fails : UnsuccessfulEndLeaves) (adds : SuccessAdds) (rules : IsHistory h) (running : IsRunning job number h.builds)
    (newest : is_succeeded status ≡ true → has_newer job number h.builds ≡ false) where
  abbrev over : HistoryData
  over = edited (ended job number status moved) h

  -- the problem afterwards is the one before with what was brought to it
  follows : (own : Text) (is : List InputData) → problem_with p over own is ≡ with_passed (problem_with p h own is) (brought_to p h is job number status moved)
  follows own is = by status newest
    where
      by : (s : Status) → (is_succeeded s ≡ true → has_newer job number h.builds ≡ false)
          → problem_with p (edited (ended job number s moved) h) own is ≡ with_passed (problem_with p h own is) (brought_to p h is job number s moved)
      by Succeeded new = adds p h own is job number moved rules running (new refl)
      by Running new = fails p h own is job number Running moved rules running refl
      by Failed new = fails p h own is job number Failed moved rules running refl
      by Errored new = fails p h own is job number Errored moved rules running refl
      by Aborted new = fails p h own is job number Aborted moved rules running refl

  -- it keeps its rules
  takes : (own : Text) (is : List InputData) → are_few is ≡ true → IsHistory over → CanTake (brought_to p h is job number status moved) (problem_with p h own is)
  takes own is few kept = by (is_succeeded status) (has_name (named_jobs [] is) job) refl (subst IsProblem (follows own is) (problem_kept p over own is kept few))
    where
      names : List Text
      names = named_jobs [] is

      it : ℕ × BuildValue
      it = (number_of names job, record { number = number; pairs = cut_to (map (history_number p h) (used_resources is)) (by_place moved) })

      by : (s n : Bool) → has_name names job ≡ n → IsProblem (with_passed (problem_with p h own is) (cond s (cond n (Some it) None) None))
          → CanTake (cond s (cond n (Some it) None) None) (problem_with p h own is)
      by true true e kept =
          let all = length-map names (job_value h.builds (map (history_number p h) (used_resources is))) in
          let low = below names job e in
          (omega (arith, all, low), kept)
      by true false e kept = tt
      by false n e kept = tt

  pub all_take : (bs : List (Option (ℕ × BuildValue))) (xs : List IndexValue) → AreIndexes p h xs → IsBrought p h job number status moved bs
      → ((k : ℕ) (j : JobData) → slice_get p.jobs k ≡ Some j → are_few (inputs j.plan) ≡ true) → IsHistory over → CanAllTake bs xs
  all_take bs xs are brought few kept k d within =
      let found = some_at p.jobs k (omega (arith, within, as_many p h xs are)) in
      let is : List InputData = inputs (found.0).plan in
      subst (λ q. CanTake (slice_index_or bs k None) q) (sym (index_at p h xs are k found.0 d found.1))
      (subst (λ o. CanTake o (problem_with p h (found.0).name is)) (sym (brought k found.0 found.1)) (takes (found.0).name is (few k found.0 found.1) kept))

  pub ends_so : (bs : List (Option (ℕ × BuildValue))) (xs ys : List IndexValue) → AreIndexes p h xs → IsBrought p h job number status moved bs → length ys ≡ length xs
      → ((k : ℕ) (d : IndexValue) → k < length xs → (slice_index_or ys k d).problem ≡ with_passed (slice_index_or xs k d).problem (slice_index_or bs k None))
      → AreIndexes p over ys
  ends_so bs xs ys are brought many each =
      from_each p over ys (many ∙ as_many p h xs are) (λ k j d at.
      let within : k < length xs = omega (arith, as_many p h xs are, slice_get_within p.jobs k j at) in
      each k d within ∙ ap₂ with_passed (index_at p h xs are k j d at) (brought k j at) ∙ sym (follows j.name (inputs j.plan)))
