-- What the parts of a core do at an event.
use Rattle.std.specs.Prelude.{◌≡◌, ◌⊎◌, ℕ, ◌<◌, ◌≤◌, Bool, true, false, List, [], ◌∷◌, ◌++◌, length, Option, Some, None, IsTrue}
use Rattle.ccr_history.specs.declared.builds.TheConstants.{MOST_BUILDS}
use Rattle.ccr_history.specs.Text.{Text}
use Rattle.ccr_history.specs.TextMap.{TextMap}
use Rattle.ccr_history.specs.Scopes.{ScopeData}
use Rattle.ccr_history.specs.Tables.{new_count, is_table_full, scope_number}
use Rattle.ccr_history.specs.Changes.{versions, edited}
use Rattle.ccr_history.specs.History.{HistoryData, has_place}
use Rattle.ccr_pipeline.specs.JobData.{ResourceData, JobData}
use Rattle.ccr_pipeline.specs.Pipelines.{PipelineData}
use Rattle.ccr_steps.specs.Runs.{RunData}
use Rattle.ccr_steps.specs.declared.outcome.Outcome.{Outcome}
use Rattle.ccr_problem.specs.ProblemOf.{resource_of, scope_of}
use Rattle.ccr_core.specs.declared.fault.CoreFault.{CoreFault}
use Rattle.ccr_core.specs.declared.fault.CoreFault.TheVariants.{NoPipeline, NoResource, TooManyOpen, TableFull, NoMemory, NoVersion}
use Rattle.ccr_core.specs.declared.limit.TheConstants.{MOST_RUNNING}
use Rattle.ccr_core.specs.Events.{EventData, schedule, trigger}
use Rattle.ccr_core.specs.Going.{IsMade}
use Rattle.ccr_core.specs.Holding.{CoreData}

-- a job is triggered, if it is by command; else it is scheduled
abbrev pub asked : Bool → Text → EventData
asked true job = trigger job
asked false job = schedule job

-- there is room for one more build in the history, and beside so many that run
abbrev pub HasRoom : HistoryData → ℕ → Type 0
HasRoom h running = (running < MOST_RUNNING) × (length h.builds < MOST_BUILDS)

-- why there is no room for one more build; no other fault says so
abbrev pub LacksRoom : HistoryData → ℕ → CoreFault → Type 0
LacksRoom h running TooManyOpen = MOST_RUNNING ≤ running
LacksRoom h running TableFull = (running < MOST_RUNNING) × (MOST_BUILDS ≤ length h.builds)
LacksRoom h running f = ⊥

-- one more stands at the end, unless the build has ended
abbrev pub Opens : {X : Type 0} → Option Outcome → X → List X → List X → Type 0
Opens None x before after = after ≡ before ++ x ∷ []
Opens (Some o) x before after = after ≡ before

-- a build is made, and its name and its machine come to the end, unless it has ended
abbrev pub IsOpened : PipelineData → HistoryData → JobData → List ℕ → ℕ → HistoryData
    → List (Text × ℕ) → List (Text × ℕ) → List RunData → List RunData → Type 0
IsOpened p h j places number after names named runs ran =
    (o : Option Outcome) × (run : RunData) × IsMade p h j places number o after run
    × Opens o (j.name, number) names named × Opens o run runs ran

-- the pipeline has a resource of this name
abbrev pub HasResource : CoreData → Text → Type 0
HasResource c name =
    (p : PipelineData) × (r : ResourceData) × (c.pipeline ≡ Some p) × (resource_of name p.resources ≡ Some r)

-- why there is no resource of this name; no other fault says so
abbrev pub LacksResource : CoreData → Text → CoreFault → Type 0
LacksResource c name NoPipeline = c.pipeline ≡ None
LacksResource c name NoResource = (p : PipelineData) × (c.pipeline ≡ Some p) × (resource_of name p.resources ≡ None)
LacksResource c name f = ⊥

-- the pipeline has a resource of this name, this is its scope, and the scope's table has this place
abbrev pub HasVersion : CoreData → Text → (place : ℕ) → ScopeData → Type 0
HasVersion c name place scope =
    (p : PipelineData) × (r : ResourceData) × (c.pipeline ≡ Some p) × (resource_of name p.resources ≡ Some r)
    × (scope ≡ scope_of r) × IsTrue (has_place c.history.tables (scope_number scope c.history.tables) place)

-- why there is no such place in the table of a resource of this name; no other fault says so
abbrev pub LacksVersion : CoreData → Text → ℕ → CoreFault → Type 0
LacksVersion c name place NoVersion =
    (p : PipelineData) × (r : ResourceData) × (c.pipeline ≡ Some p) × (resource_of name p.resources ≡ Some r)
    × (has_place c.history.tables (scope_number (scope_of r) c.history.tables) place ≡ false)
LacksVersion c name place f = LacksResource c name f

-- a report of versions of a scope: the history after it, and how many were new
abbrev pub IsReported : HistoryData → HistoryData → ScopeData → List TextMap → ℕ → Type 0
IsReported h after scope seen count =
    (is_table_full scope seen h.tables ≡ false) × (after ≡ edited (versions scope seen) h)
    × (count ≡ new_count scope seen h.tables)

-- why a report of versions of a scope is refused: it has no place, or out of memory
abbrev pub IsNotReported : HistoryData → ScopeData → List TextMap → CoreFault → Type 0
IsNotReported h scope seen fault =
    (fault ≡ NoMemory) ⊎ ((fault ≡ TableFull) × (is_table_full scope seen h.tables ≡ true))
