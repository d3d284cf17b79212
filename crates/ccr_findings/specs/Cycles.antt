-- Jobs that wait for each other.
use Rattle.std.specs.Prelude.{◌≡◌, ◌⊎◌, List, [], ◌∷◌, ◌++◌, Bool, true, false, ◌&&◌, ◌||◌, Option, Some, None, IsTrue, codes}
use Rattle.std.specs.List.{flat_map, IsDistinct}
use Rattle.std.specs.Str.{bytes_eq}
use Rattle.ccr_pipeline.specs.Inputs.{inputs, named_jobs}
use Rattle.ccr_pipeline.specs.JobData.{JobData}
use Rattle.ccr_pipeline.specs.Names.{has_name}
use Rattle.ccr_pipeline.specs.Tree.{Text}
use Rattle.ccr_findings.specs.declared.finding.Kind.TheVariants.{Cycle}
use Rattle.ccr_findings.specs.declared.cycle.Waiter.{Waiter}
use Rattle.ccr_findings.specs.Findings.{FindingData, finding}
use Rattle.std.specs.Prelude.{string_bytes}

-- a job, and the jobs that it waits for
pub record WaitData : Type 0 where
  pub name : Text
  pub waits : List Text

-- the same, without where it lies in memory
abbrev pub waiter_data : Waiter → WaitData
waiter_data w = record { name = string_bytes w.name; waits = w.waits }

-- a job waits for those that its inputs name in passed
abbrev pub wait_of : JobData → WaitData
wait_of j = record { name = j.name; waits = named_jobs [] (inputs j.plan) }

-- those of a pipeline's jobs
abbrev pub waits_in : List JobData → List WaitData
waits_in [] = []
waits_in (j ∷ js) = wait_of j ∷ waits_in js

-- a job of the one name waits for the other one
abbrev pub waits_for : List WaitData → Text → Text → Bool
waits_for [] name other = false
waits_for (w ∷ ws) name other = (bytes_eq w.name name && has_name w.waits other) || waits_for ws name other

-- the one after the last is the first
abbrev pub next_of : Text → List Text → Text
next_of first [] = first
next_of first (name ∷ names) = name

-- each waits for the next one, and the last for the first
abbrev pub wait_in_turn : List WaitData → Text → List Text → Bool
wait_in_turn ws first [] = true
wait_in_turn ws first (name ∷ names) = waits_for ws name (next_of first names) && wait_in_turn ws first names

-- JOBS THAT WAIT FOR EACH OTHER: each for the next one, and the last for the first, so that none of them can be built
-- first; each is named once
abbrev pub IsCycle : List WaitData → List Text → Type 0
IsCycle ws [] = ⊥
IsCycle ws (name ∷ names) = IsTrue (wait_in_turn ws name (name ∷ names)) × IsDistinct bytes_eq (name ∷ names)

-- the line of such jobs
abbrev pub cycle_line : List Text → Text
cycle_line [] = []
cycle_line (name ∷ names) =
    codes "cycle " ++ (name ++ (flat_map (λ other. codes ", " ++ other) names
    ++ codes ": each waits for the next by passed, and the last for the first"))

-- a line tells of jobs that wait for each other
abbrev pub TellsCycle : List WaitData → Text → Type 0
TellsCycle ws line = (names : List Text) × IsCycle ws names × (line ≡ cycle_line names)

-- no jobs wait for each other
abbrev pub IsFree : List WaitData → Type 0
IsFree ws = (names : List Text) → ¬ IsCycle ws names

-- what is told of jobs: a line of some that wait for each other; or nothing, and none do
abbrev pub TellsOf : List WaitData → Option Text → Type 0
TellsOf ws None = IsFree ws
TellsOf ws (Some line) = TellsCycle ws line

-- WHAT IS TOLD OF THEM, by the findings before and after: a line of jobs that wait for each other; or none, and no jobs do
abbrev pub AddsCycle : List JobData → List FindingData → List FindingData → Type 0
AddsCycle js old new =
    ((line : Text) × TellsCycle (waits_in js) line × (new ≡ old ++ finding Cycle line ∷ []))
    ⊎ (IsFree (waits_in js) × (new ≡ old))
