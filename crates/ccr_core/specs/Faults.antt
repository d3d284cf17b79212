-- Which fault an event meets.
use Rattle.std.specs.Prelude.{◌≡◌, ◌≢◌, ◌⊎◌, ℕ, ◌≤◌, ◌<◌, [], ◌∷◌, List, false, length, Option, Some, None, IsSomeAnd}
use Rattle.ccr_history.specs.Text.{Text}
use Rattle.ccr_history.specs.TextMap.{TextMap}
use Rattle.ccr_history.specs.declared.builds.TheConstants.{MOST_BUILDS}
use Rattle.ccr_steps.specs.Asks.{AskData, AnswerData}
use Rattle.ccr_steps.specs.Progress.{IsNext}
use Rattle.ccr_steps.specs.Runs.{HasTurn}
use Rattle.ccr_core.specs.declared.fault.CoreFault.{CoreFault}
use Rattle.ccr_core.specs.declared.fault.CoreFault.TheVariants.{NoPipeline, NoJob, NoResource, NoBuild, BuildsOpen, NotWanted, TooManyOpen, TableFull, NoMemory, NoVersion}
use Rattle.ccr_core.specs.declared.limit.TheConstants.{MOST_RUNNING}
use Rattle.ccr_problem.specs.ProblemOf.{resource_of, job_of}
use Rattle.ccr_core.specs.Addressed.{AnswerTo, addressed}
use Rattle.ccr_core.specs.Events.{EventData, set_pipeline, checked, schedule, trigger, answer, abort, pin, unpin, disable, enable, restart}
use Rattle.ccr_history.specs.History.{has_place}
use Rattle.ccr_core.specs.State.{RunningData, State, resources_of, jobs_of, running_at, scope_in}
use Rattle.ccr_core.specs.Seen.{Overfills, pushed_by}

-- the build is to be answered at another turn
abbrev pub HasOtherTurn : State → Text → ℕ → ℕ → Type 0
HasOtherTurn s job number turn =
    (b : RunningData) × (running_at job number s.running ≡ Some b) × ¬ HasTurn b.exchanges turn

-- with the answer the build pushes a version for which its resource's table has no place
abbrev pub PushOverfills : State → Text → ℕ → AnswerData → Type 0
PushOverfills s job number x =
    (b : RunningData) × (a : AskData) × (resource : Text) × (v : TextMap)
    × (running_at job number s.running ≡ Some b) × IsNext b.inputs b.plan b.exchanges a
    × (pushed_by a x ≡ Some (resource, v)) × Overfills s resource (v ∷ [])

-- ---- which faults an event meets: in each of these tables, a fault with no row of its own is met by no such event
-- a new pipeline is to be set
abbrev pub PipelineMeets : State → CoreFault → Type 0
PipelineMeets s BuildsOpen = s.running ≢ []
PipelineMeets s f = ⊥

-- a resource is named
abbrev pub ResourceMeets : State → Text → CoreFault → Type 0
ResourceMeets s resource NoPipeline = s.pipeline ≡ None
ResourceMeets s resource NoResource = resource_of resource (resources_of s) ≡ None
ResourceMeets s resource f = ⊥

-- a place of a resource's table is named
abbrev pub PlaceMeets : State → Text → ℕ → CoreFault → Type 0
PlaceMeets s resource place NoVersion = has_place s.history.tables (scope_in s resource) place ≡ false
PlaceMeets s resource place f = ResourceMeets s resource f

-- versions of a resource are reported
abbrev pub ReportMeets : State → Text → List TextMap → CoreFault → Type 0
ReportMeets s resource vs TableFull = Overfills s resource vs
ReportMeets s resource vs f = ResourceMeets s resource f

-- a build of a job is to be made
abbrev pub JobMeets : State → Text → CoreFault → Type 0
JobMeets s job NoPipeline = s.pipeline ≡ None
JobMeets s job NoJob = job_of job (jobs_of s) ≡ None
JobMeets s job TooManyOpen = MOST_RUNNING ≤ length s.running
JobMeets s job TableFull = MOST_BUILDS ≤ length s.history.builds
JobMeets s job f = ⊥

-- a build is given an answer; only one that names a turn may name another than the build's
abbrev pub AnswerMeets : State → AnswerTo → CoreFault → Type 0
AnswerMeets s a NoBuild = running_at a.job a.number s.running ≡ None
AnswerMeets s a NotWanted = IsSomeAnd a.turn (HasOtherTurn s a.job a.number)
AnswerMeets s a TableFull = PushOverfills s a.job a.number a.given
AnswerMeets s a f = ⊥

-- the fault that an event meets by what it says to a build, or, where it says nothing to one, by what it is
abbrev pub MeetsBy : State → Option AnswerTo → EventData → CoreFault → Type 0
MeetsBy s (Some a) e f = AnswerMeets s a f
MeetsBy s None (set_pipeline p) f = PipelineMeets s f
MeetsBy s None (checked resource vs) f = ReportMeets s resource vs f
MeetsBy s None (schedule job) f = JobMeets s job f
MeetsBy s None (trigger job) f = JobMeets s job f
MeetsBy s None (answer job number turn x) f = ⊥
MeetsBy s None (abort job number) f = ⊥
MeetsBy s None (pin resource p) f = ResourceMeets s resource f
MeetsBy s None (unpin resource) f = ResourceMeets s resource f
MeetsBy s None (disable resource place) f = PlaceMeets s resource place f
MeetsBy s None (enable resource place) f = PlaceMeets s resource place f
MeetsBy s None restart f = ⊥

-- the event meets the fault; out of memory is no fault of an event
abbrev pub Meets : State → EventData → CoreFault → Type 0
Meets s e f = MeetsBy s (addressed e) e f

-- the order in which faults count
abbrev pub fault_number : CoreFault → ℕ
fault_number NoPipeline = 1
fault_number NoJob = 2
fault_number NoResource = 3
fault_number NoBuild = 4
fault_number BuildsOpen = 5
fault_number NotWanted = 6
fault_number TooManyOpen = 7
fault_number TableFull = 8
fault_number NoMemory = 9
fault_number NoVersion = 10

-- of the faults that the event meets it is the one with the least number
abbrev pub IsFirstFault : State → EventData → CoreFault → Type 0
IsFirstFault s e f = Meets s e f × ((g : CoreFault) → fault_number g < fault_number f → ¬ Meets s e g)

-- the event may be refused so: with its first fault, or out of memory
abbrev pub MayRefuse : State → EventData → CoreFault → Type 0
MayRefuse s e f = (f ≡ NoMemory) ⊎ IsFirstFault s e f

-- the event meets no fault
abbrev pub IsFree : State → EventData → Type 0
IsFree s e = (f : CoreFault) → ¬ Meets s e f
