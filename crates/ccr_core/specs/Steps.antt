-- The core as a machine: which answer an event may have in a state, and the state after it.
use Rattle.std.specs.Prelude.{◌≡◌, ℕ, Bool, true, false, List, [], ◌∷◌, map, Option, Some, None, Ok, Err}
use Rattle.ccr_history.specs.Changes.{text, pin_set, pin_cleared, disabled, enabled, edited, changed}
use Rattle.ccr_pipeline.specs.Inputs.{inputs}
use Rattle.ccr_pipeline.specs.JobData.{JobData}
use Rattle.ccr_pipeline.specs.Pipelines.{PipelineData}
use Rattle.ccr_core.specs.declared.reply.Reply.{Reply}
use Rattle.ccr_core.specs.declared.reply.Reply.TheVariants.{Set, New, Made, NoneSatisfies, OverBudget, NotNew, Busy, Goes, Ends, Pinned, Unpinned, Disabled, Enabled, Restarted}
use Rattle.ccr_problem.specs.ProblemOf.{job_of}
use Rattle.ccr_core.specs.Addressed.{AnswerTo, addressed}
use Rattle.ccr_core.specs.Busy.{is_busy}
use Rattle.ccr_core.specs.Builds.{Makes, GoesOnWith, cut}
use Rattle.ccr_core.specs.Choices.{best, nothing, over_budget, Finds, used_at}
use Rattle.ccr_problem.specs.Triggers.{is_new}
use Rattle.ccr_core.specs.Events.{EventData, set_pipeline, checked, schedule, trigger, answer, abort, pin, unpin, disable, enable, restart}
use Rattle.ccr_core.specs.Faults.{MayRefuse, IsFree}
use Rattle.ccr_core.specs.Replies.{Replied}
use Rattle.ccr_core.specs.Seen.{report, news_of}
use Rattle.ccr_core.specs.State.{RunningData, State, pipeline_of, jobs_of, moved_on, with_history, running_at, scope_in}

-- ---- the steps
-- the text of a new pipeline is kept; tables, builds and pins stay
abbrev pub with_pipeline : State → PipelineData → State
with_pipeline s p =
    record { history = edited (text p.text) s.history; pipeline = Some p; budget = s.budget; running = s.running }

-- the job is busy
abbrev pub IsBusy : State → JobData → Type 0
IsBusy s j = is_busy (jobs_of s) j s.running ≡ true

-- the job isn't busy
abbrev pub IsIdle : State → JobData → Type 0
IsIdle s j = is_busy (jobs_of s) j s.running ≡ false

-- at these places there is something new for the job
abbrev pub has_news : State → JobData → List ℕ → Bool
has_news s j places =
    is_new j.name s.history.builds (inputs j.plan) (used_at (pipeline_of s) s.history (inputs j.plan) places)

-- why no build of a job is made, whether it is scheduled or triggered; no other reply says that none is made
abbrev pub IsHeld : State → JobData → Reply → Type 0
IsHeld s j Busy = IsBusy s j
IsHeld s j NoneSatisfies = IsIdle s j × Finds s j.name nothing
IsHeld s j (OverBudget budget) = IsIdle s j × Finds s j.name over_budget × (budget ≡ s.budget)
IsHeld s j r = ⊥

-- A job is scheduled: a build is made where it isn't busy and an optimal choice has something new. Any other reply says
-- why none is made, and leaves the state.
abbrev pub Schedules : State → JobData → Reply → State → Type 0
Schedules s j NotNew after =
    IsIdle s j × ((places : List ℕ) × Finds s j.name (best places) × (has_news s j places ≡ false) × (after ≡ s))
Schedules s j (Made number) after =
    IsIdle s j
    × ((places : List ℕ) × Finds s j.name (best places) × (has_news s j places ≡ true) × Makes s j places number after)
Schedules s j r after = IsHeld s j r × (after ≡ s)

-- A job is triggered: a build is made where it isn't busy and there is an optimal choice. Any other reply says why none
-- is made, and leaves the state.
abbrev pub Triggers : State → JobData → Reply → State → Type 0
Triggers s j (Made number) after =
    IsIdle s j × ((places : List ℕ) × Finds s j.name (best places) × Makes s j places number after)
Triggers s j r after = IsHeld s j r × (after ≡ s)

-- what an answer to a build does that meets no fault: the build goes on with it, or ends with it; no other reply is
-- given to it
abbrev pub Answers : State → AnswerTo → Reply → State → Type 0
Answers s a Goes after =
    (b : RunningData) × (running_at a.job a.number s.running ≡ Some b) × GoesOnWith s b a.given None after
Answers s a (Ends o) after =
    (b : RunningData) × (running_at a.job a.number s.running ≡ Some b) × GoesOnWith s b a.given (Some o) after
Answers s a r after = ⊥

-- what an event that meets no fault does by what it says to a build, or, where it says nothing to one, by what it is;
-- a reply that has no row with an event is not given to it
abbrev pub DoesBy : State → Option AnswerTo → EventData → Reply → State → Type 0
DoesBy s (Some a) e r after = Answers s a r after
DoesBy s None (set_pipeline p) Set after = after ≡ with_pipeline s p
DoesBy s None (set_pipeline p) r after = ⊥
DoesBy s None (checked resource vs) (New n) after =
    (n ≡ news_of (pipeline_of s) s.history resource vs)
    × (after ≡ with_history s (changed (report (pipeline_of s) resource vs) s.history))
DoesBy s None (checked resource vs) r after = ⊥
DoesBy s None (schedule job) r after = (j : JobData) × (job_of job (jobs_of s) ≡ Some j) × Schedules s j r after
DoesBy s None (trigger job) r after = (j : JobData) × (job_of job (jobs_of s) ≡ Some j) × Triggers s j r after
DoesBy s None (answer job number turn x) r after = ⊥
DoesBy s None (abort job number) r after = ⊥
DoesBy s None (pin resource p) Pinned after = after ≡ with_history s (edited (pin_set resource p) s.history)
DoesBy s None (pin resource p) r after = ⊥
DoesBy s None (unpin resource) Unpinned after = after ≡ with_history s (edited (pin_cleared resource) s.history)
DoesBy s None (unpin resource) r after = ⊥
DoesBy s None (disable resource place) Disabled after =
    after ≡ with_history s (edited (disabled (scope_in s resource) place) s.history)
DoesBy s None (disable resource place) r after = ⊥
DoesBy s None (enable resource place) Enabled after =
    after ≡ with_history s (edited (enabled (scope_in s resource) place) s.history)
DoesBy s None (enable resource place) r after = ⊥
DoesBy s None restart Restarted after = after ≡ moved_on s (changed (map cut s.running) s.history) []
DoesBy s None restart r after = ⊥

-- what an event does that meets no fault
abbrev pub Does : State → EventData → Reply → State → Type 0
Does s e r after = DoesBy s (addressed e) e r after

-- From a state an event may be answered so, and lead to that state. A refusal leaves the state.
abbrev pub Step : State → EventData → Replied → State → Type 0
Step s e (Ok r) after = IsFree s e × Does s e r after
Step s e (Err f) after = MayRefuse s e f × (after ≡ s)

-- ---- runs
-- these events may be answered so, one after another
abbrev pub Run : State → List EventData → List Replied → State → Type 0
Run s [] [] after = after ≡ s
Run s (e ∷ es) (r ∷ rs) after = (mid : State) × Step s e r mid × Run mid es rs after
Run s [] (r ∷ rs) after = ⊥
Run s (e ∷ es) [] after = ⊥
