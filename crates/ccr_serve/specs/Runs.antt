-- Rounds, and turns until no build runs.
use Rattle.std.specs.Prelude.{◌≡◌, ◌≢◌, ◌≤◌, ℕ, zero, suc, List, [], ◌∷◌, ◌++◌, length, map, replicate, Bool, true, false, Result, Ok, Err, IsSome}
use Rattle.std.specs.List.{AllByRecursion}
use Rattle.ccr_pipeline.specs.JobData.{ResourceData}
use Rattle.ccr_problem.specs.ProblemOf.{resource_of}
use Rattle.ccr_task.specs.Places.{PlacesData}
use Rattle.ccr_core.specs.Events as event
use Rattle.ccr_core.specs.State.{State, resources_of, jobs_of}
use Rattle.ccr_history.specs.Text.{Text}
use Rattle.ccr_serve.specs.Items.{World, Item, check, schedule, turn, tell, Done, Each, Part, IsCut, Items, Then}
use Rattle.ccr_serve.specs.Serving.{Serves}
use Rattle.ccr_serve.specs.declared.fault.ServeFault.{ServeFault}

-- a check of each resource, then a schedule of each job, in the pipeline's order
abbrev pub checks_and_schedules : State → List Item
checks_and_schedules s = map (λ r. check r.name) (resources_of s) ++ map (λ j. schedule j.name) (jobs_of s)

-- as many turns as builds run
abbrev pub TurnOfEach : PlacesData → Part
TurnOfEach places old ds whole new =
    Items (Serves places) (replicate (length old.core.running) turn) old ds whole new

-- each of these names is that of a resource
abbrev pub AreThere : List Text → List ResourceData → Type 0
AreThere names rs = AllByRecursion (λ name. IsSome (resource_of name rs)) names

-- a round
abbrev pub Round : PlacesData → Part
Round places old ds whole new =
    Then (Items (Serves places) (checks_and_schedules old.core)) (TurnOfEach places) old ds whole new

-- so many rounds
abbrev pub Rounds : PlacesData → ℕ → Part
Rounds places zero = Items (Serves places) []
Rounds places (suc n) = Then (Round places) (Rounds places n)

-- each of them made an event
abbrev pub AllMade : List Done → Type 0
AllMade ds = AllByRecursion (λ d. IsSome d.event) ds

-- so many turns that each made an event
abbrev pub TurnsMade : PlacesData → ℕ → World → List Done → World → Type 0
TurnsMade places n old ds new = Each (Serves places) (replicate n turn) old ds new × AllMade ds

-- how many turns a command may take beside those of its rounds
abbrev pub MOST_TURNS : ℕ
MOST_TURNS = 10000000

-- turns of running builds until none runs, at most MOST_TURNS; cut short, the first few of them, and what was begun of the
-- next one
abbrev pub ToTheEnd : PlacesData → Part
ToTheEnd places old ds true new =
    (n : ℕ) × (n ≤ MOST_TURNS) × TurnsMade places n old ds new × (new.core.running ≡ [])
ToTheEnd places old ds false new =
    (n : ℕ) × (n ≤ MOST_TURNS) × (mid : World) × TurnsMade places n old ds mid × IsCut (Serves places) (turn ∷ []) mid new

-- MOST_TURNS turns of running builds, and one still runs
abbrev pub UsedUp : PlacesData → Part
UsedUp places old ds whole new =
    (n : ℕ) × (n ≡ MOST_TURNS) × TurnsMade places n old ds new × (new.core.running ≢ [])

-- turns until no build runs, or as many as a command may take
abbrev pub TurnsTo : PlacesData → Bool → Part
TurnsTo places true = ToTheEnd places
TurnsTo places false = UsedUp places

-- the same, by what came of them: whether no build runs, or why they were cut short
abbrev pub TurnsBy : Result Bool ServeFault → PlacesData → Part
TurnsBy (Ok ended) places = TurnsTo places ended
TurnsBy (Err f) places = ToTheEnd places

-- a run: its rounds, and then turns until no build runs
abbrev pub Run : PlacesData → ℕ → Part
Run places n = Then (Rounds places n) (ToTheEnd places)

-- a job is triggered, and then there are turns until no build runs
abbrev pub TriggerAndRun : PlacesData → Text → Part
TriggerAndRun places job = Then (Items (Serves places) (tell (event.trigger job) ∷ [])) (ToTheEnd places)
