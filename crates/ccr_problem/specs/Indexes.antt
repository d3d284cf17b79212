-- The indexes of a pipeline's jobs, and what comes to them.
use Rattle.std.specs.Prelude.{◌≡◌, ℕ, ◌+◌, ◌<◌, ◌≤◌, List, length, map, slice_get, slice_index_or, Option, Some, None, if◌then◌else◌, ⊤}
use Rattle.ccr_history.specs.declared.build.Status.{Status}
use Rattle.ccr_history.specs.Text.{Text}
use Rattle.ccr_history.specs.Builds.{is_succeeded}
use Rattle.ccr_history.specs.Changes.{edited}
use Rattle.ccr_history.specs.Edits.{edit_data, HasItsNumbers}
use Rattle.ccr_history.specs.History.{HistoryData, IsHistory}
use Rattle.ccr_history.specs.declared.change.Edit.TheVariants.{Versions}
use Rattle.ccr_history.specs.declared.change.Reported.{Reported}
use Rattle.ccr_pipeline.specs.Inputs.{InputData, inputs}
use Rattle.ccr_pipeline.specs.JobData.{JobData}
use Rattle.ccr_pipeline.specs.Pipelines.{PipelineData}
use Rattle.ccr_choice.specs.Problem.{BuildValue, ProblemValue}
use Rattle.ccr_index.specs.Index.{IndexValue}
use Rattle.ccr_problem.specs.Follows.{passed_to}
use Rattle.ccr_problem.specs.ProblemOf.{problem_with}

-- the problem of each job of a pipeline, in order
abbrev pub problems_of : PipelineData → HistoryData → List ProblemValue
problems_of p h = map (λ j. problem_with p h j.name (inputs j.plan)) p.jobs

-- the problems that indexes stand for
abbrev pub problems : List IndexValue → List ProblemValue
problems xs = map (λ x. x.problem) xs

-- THE LINK: there is an index for each job, in order, and it stands for the job's problem
abbrev pub AreIndexes : PipelineData → HistoryData → List IndexValue → Type 0
AreIndexes p h xs = problems xs ≡ problems_of p h

-- ---- a report
-- the history is another one after this report, and the indexes are those before it
abbrev pub AreBefore : PipelineData → HistoryData → Reported → List IndexValue → Type 0
AreBefore p h report xs =
    (before : HistoryData) × IsHistory before × HasItsNumbers before (Versions report)
    × (h ≡ edited (edit_data (Versions report)) before) × AreIndexes p before xs

-- ---- the end of a build
-- what the end of a build brings to the problem of inputs: something only where it succeeded
abbrev pub brought_to : PipelineData → HistoryData → List InputData → Text → ℕ → Status → List (ℕ × ℕ) → Option (ℕ × BuildValue)
brought_to p h is job number status moved =
    if is_succeeded status then passed_to p h is job number moved else None

-- to each job's problem the end of a build brings these
abbrev pub IsBrought : PipelineData → HistoryData → Text → ℕ → Status → List (ℕ × ℕ) → List (Option (ℕ × BuildValue)) → Type 0
IsBrought p h job number status moved bs =
    (k : ℕ) (j : JobData) → slice_get p.jobs k ≡ Some j
    → slice_index_or bs k None ≡ brought_to p h (inputs j.plan) job number status moved

-- the index has room for what is brought
abbrev pub FitsIn : Option (ℕ × BuildValue) → IndexValue → Type 0
FitsIn None x = ⊤
FitsIn (Some (j, b)) x = length b.pairs + 1 ≤ x.spare_pairs

-- each index has room for what is brought to it
abbrev pub HaveRoom : List (Option (ℕ × BuildValue)) → List IndexValue → Type 0
HaveRoom bs xs = (k : ℕ) (d : IndexValue) → k < length xs → FitsIn (slice_index_or bs k None) (slice_index_or xs k d)
