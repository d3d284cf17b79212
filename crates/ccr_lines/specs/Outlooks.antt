-- What the next build of a job would be, were the job scheduled.
use Rattle.std.specs.Prelude.{◌≡◌, ℕ, List, Bool, true, false, codes, decimal, ◌++◌, if◌then◌else◌}
use Rattle.std.specs.List.{list_any}
use Rattle.ccr_history.specs.Text.{Text}
use Rattle.ccr_history.specs.History.{HistoryData}
use Rattle.ccr_pipeline.specs.Inputs.{InputData, inputs}
use Rattle.ccr_pipeline.specs.JobData.{JobData}
use Rattle.ccr_pipeline.specs.Pipelines.{PipelineData}
use Rattle.ccr_core.specs.Choices.{best, nothing, over_budget, used_at}
use Rattle.ccr_problem.specs.Triggers.{is_new}
use Rattle.ccr_core.specs.Picking.{IsFound}
use Rattle.ccr_lines.specs.declared.outlook.Outlook.{Outlook}
use Rattle.ccr_lines.specs.declared.outlook.Outlook.TheVariants.{Due, NothingNew, ByCommandOnly, NoneSatisfies, OverBudget}

-- one of the inputs makes builds by itself
abbrev pub has_trigger : List InputData → Bool
has_trigger is = list_any (λ i. i.trigger) is

-- one of the inputs with trigger has a place of these that no build of the job had
abbrev pub has_news : PipelineData → HistoryData → JobData → List ℕ → Bool
has_news p h j places = is_new j.name h.builds (inputs j.plan) (used_at p h (inputs j.plan) places)

-- the outlook of a job for whose next build these places were chosen: they have something new; or they were built before; or
-- no input makes builds by itself
abbrev pub outlook_at : PipelineData → HistoryData → JobData → List ℕ → Outlook
outlook_at p h j places =
    if has_news p h j places then Due else (if has_trigger (inputs j.plan) then NothingNew else ByCommandOnly)

-- WHAT THE NEXT BUILD OF A JOB WOULD BE, in a pipeline with a history, with a search of at most so many nodes: it has
-- something new; its versions are known, so that none is made; none is made but by command; there is none, since no choice
-- of versions satisfies; or the search went over the budget
abbrev pub HasOutlook : PipelineData → HistoryData → ℕ → JobData → Outlook → Type 0
HasOutlook p h budget j Due =
    (places : List ℕ) × IsFound p h budget j.name (best places) × (has_news p h j places ≡ true)
HasOutlook p h budget j NothingNew =
    (places : List ℕ) × IsFound p h budget j.name (best places) × (has_news p h j places ≡ false)
    × (has_trigger (inputs j.plan) ≡ true)
HasOutlook p h budget j ByCommandOnly =
    (places : List ℕ) × IsFound p h budget j.name (best places) × (has_trigger (inputs j.plan) ≡ false)
HasOutlook p h budget j NoneSatisfies = IsFound p h budget j.name nothing
HasOutlook p h budget j (OverBudget n) = IsFound p h budget j.name over_budget × (n ≡ budget)

-- the outlook in words
abbrev pub outlook_words : Outlook → Text
outlook_words Due = codes "due"
outlook_words NothingNew = codes "nothing new"
outlook_words ByCommandOnly = codes "by command only"
outlook_words NoneSatisfies = codes "none satisfies"
outlook_words (OverBudget n) = codes "over budget " ++ decimal n
