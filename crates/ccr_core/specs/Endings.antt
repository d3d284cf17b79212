-- How one build stands once it was answered or made, with the edits that say so.
use Rattle.std.specs.Prelude.{◌≡◌, ℕ, true, List, [], ◌∷◌, Option, Some, None, ⊤}
use Rattle.ccr_history.specs.Text.{Text}
use Rattle.ccr_history.specs.Tables.{TableData, is_table_full}
use Rattle.ccr_history.specs.Changes.{EditData, versions, ended, changed, AreMoved, AdmitsAll}
use Rattle.ccr_history.specs.History.{HistoryData}
use Rattle.ccr_history.specs.declared.change.Edit.{Edit}
use Rattle.ccr_history.specs.declared.change.Edit.TheVariants.{Versions}
use Rattle.ccr_history.specs.declared.change.Reported.{Reported}
use Rattle.ccr_pipeline.specs.Pipelines.{PipelineData}
use Rattle.ccr_pipeline.specs.Tree.{Tree}
use Rattle.ccr_steps.specs.Asks.{Chosen, Exchange}
use Rattle.ccr_steps.specs.Gains.{GainsData, no_gains}
use Rattle.ccr_steps.specs.Means.{Means}
use Rattle.ccr_steps.specs.Progress.{IsAllowed, Begins}
use Rattle.ccr_steps.specs.Runs.{RunData, StandsFor}
use Rattle.ccr_steps.specs.declared.outcome.Outcome.{Outcome}
use Rattle.ccr_core.specs.declared.pushed.Report.{Report}
use Rattle.ccr_core.specs.Builds.{status_of}
use Rattle.ccr_core.specs.Seen.{pairs_of}

-- ---- reports
-- what a report changes, if there is one
abbrev pub reports : Option Report → List EditData
reports None = []
reports (Some r) = versions r.scope r.versions.items ∷ []

-- the edit that a report makes, if there is one
abbrev pub report_edits : Option Reported → List Edit
report_edits None = []
report_edits (Some r) = Versions r ∷ []

-- there is a report, and it can't be taken
abbrev pub IsOver : Option Report → HistoryData → Type 0
IsOver None h = ⊥
IsOver (Some r) h = is_table_full r.scope r.versions.items h.tables ≡ true

-- ---- endings
-- a build stands so at its exchanges: it goes on, or it has ended, and what it moved are these pairs
abbrev pub IsEnding :
    PipelineData → HistoryData → Chosen → Tree → List Exchange → Option Outcome → List (ℕ × ℕ) → Type 0
IsEnding p h inputs plan es None pairs = Begins inputs plan es × (IsAllowed inputs plan es → ⊥)
IsEnding p h inputs plan es (Some o) pairs =
    (g : GainsData) × Means inputs plan no_gains es o g × (pairs ≡ pairs_of p h g.moved)

-- the machine stands so, whatever exchanges it stands for
abbrev pub IsAtEnding : PipelineData → HistoryData → RunData → Option Outcome → List (ℕ × ℕ) → Type 0
IsAtEnding p h r o pairs =
    (plan : Tree) (inputs : Chosen) (es : List Exchange) → StandsFor r plan inputs es
    → IsEnding p h inputs plan es o pairs

-- the edits that end a build, if it has ended
abbrev pub end_edits : Text → ℕ → Option Outcome → List (ℕ × ℕ) → List EditData
end_edits job number None pairs = []
end_edits job number (Some o) pairs = ended job number (status_of o) pairs ∷ []

-- where a build has ended, the pairs fit the tables
abbrev pub PairsFit : List TableData → Option Outcome → List (ℕ × ℕ) → Type 0
PairsFit tables None pairs = ⊤
PairsFit tables (Some o) pairs = AreMoved tables pairs

-- where the machine has ended, what it moved fits the tables
abbrev pub EndFits : PipelineData → HistoryData → RunData → Type 0
EndFits p h r =
    (plan : Tree) × (inputs : Chosen) × (es : List Exchange) × StandsFor r plan inputs es
    × ((o : Outcome) (g : GainsData) → Means inputs plan no_gains es o g
    → AreMoved h.tables (pairs_of p h g.moved))

-- THE CONDITION of a report and what follows: if there is room for it the history takes it, and then the end fits
abbrev pub ReportFits : PipelineData → HistoryData → Option Report → RunData → Type 0
ReportFits p h report r =
    ((IsOver report h → ⊥) → AdmitsAll h (reports report))
    × (AdmitsAll h (reports report) → EndFits p (changed (reports report) h) r)
