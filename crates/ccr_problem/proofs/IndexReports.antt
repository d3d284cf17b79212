-- What a report does to indexes.
use Rattle.std.proofs.Common.{◌≡◌, ℕ, ◌+◌, ◌≤◌, List, length, map, get_or, slice_get, Some, sym, ap, ap₂, ◌∙◌, arith}
use Rattle.std.proofs.lemmas.List.{length-map}
use Rattle.ccr_history.specs.History.{HistoryData, IsHistory}
use Rattle.ccr_history.specs.Tables.{versions_of}
use Rattle.ccr_history.specs.declared.change.Reported.{Reported}
use Rattle.ccr_history.proofs.NewVersions.{new_alone}
use Rattle.ccr_pipeline.specs.Inputs.{InputData, inputs}
use Rattle.ccr_pipeline.specs.JobData.{JobData}
use Rattle.ccr_pipeline.specs.Pipelines.{PipelineData}
use Rattle.ccr_choice.specs.Problem.{ProblemValue}
use Rattle.ccr_index.specs.Index.{IndexValue}
use Rattle.ccr_problem.specs.Follows.{ReportAdds, new_places}
use Rattle.ccr_problem.specs.ProblemOf.{problem_with}
use Rattle.ccr_problem.proofs.Places.{few_in_history}
use Rattle.ccr_problem.specs.Indexes.{AreBefore}
use Rattle.ccr_problem.specs.Passing.{with_news}
use Rattle.ccr_problem.proofs.Each.{as_many, index_at}

-- a report of a history has places that a table has room for
pub few_news : (p : PipelineData) (h : HistoryData) (r : Reported) (xs : List IndexValue) → AreBefore p h r xs → IsHistory h → r.first + length r.versions.items ≤ 100001
few_news p h r xs (before, rules, numbers, is, are) kept =
    let many = new_alone r.scope r.versions.items before.tables numbers.3 in
    let few = few_in_history h r.scope kept in
    let same = ap (λ (x : HistoryData). length (versions_of r.scope x.tables)) is in
    omega (arith, many, few, same, numbers.2)

module _ (p : PipelineData) (h : HistoryData) (r : Reported) (xs : List IndexValue) (adds : ReportAdds) (is_before : AreBefore p h r xs) where
  -- the places that come to each input of a job
  abbrev pub News : JobData → List (List ℕ)
  News j = map (new_places p h r.scope r.first r.versions.items) (inputs j.plan)

  pub news_many : length xs ≡ length p.jobs
  news_many = as_many p is_before.0 xs is_before.4

  -- the index of a job, with what comes to it, is that of the problem after the report
  pub news_at : (k : ℕ) (j : JobData) (d : IndexValue) → slice_get p.jobs k ≡ Some j → with_news (get_or xs k d).problem (News j) ≡ problem_with p h j.name (inputs j.plan)
  news_at k j d at =
      let before : HistoryData = is_before.0 in
      let is : List InputData = inputs j.plan in
      let first : r.first ≡ length (versions_of r.scope before.tables) + 1 = (is_before.2).2 in
      let was = index_at p before xs is_before.4 k j d at in
      let all = adds p before j.name is r.scope r.versions.items is_before.1 (is_before.2).3 in
      let same : News j ≡ map (new_places p before r.scope (length (versions_of r.scope before.tables) + 1) r.versions.items) is =
      ap (λ (x : HistoryData). map (new_places p x r.scope r.first r.versions.items) is) is_before.3 ∙ ap (λ n. map (new_places p before r.scope n r.versions.items) is) first in
      ap₂ with_news was same ∙ sym all ∙ ap (λ (x : HistoryData). problem_with p x j.name is) (sym is_before.3)

  -- of what comes to a job, something comes to each input
  pub news_each : (k : ℕ) (j : JobData) (d : IndexValue) → slice_get p.jobs k ≡ Some j → length (News j) ≡ length (get_or xs k d).problem.inputs
  news_each k j d at =
      let is : List InputData = inputs j.plan in
      let was = index_at p is_before.0 xs is_before.4 k j d at in
      length-map is (new_places p h r.scope r.first r.versions.items) ∙ sym (length-map is _) ∙ ap (λ (q : ProblemValue). length q.inputs) (sym was)
