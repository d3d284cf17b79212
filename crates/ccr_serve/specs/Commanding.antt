-- What commands do, and how they are refused.
use Rattle.std.specs.Prelude.{◌≡◌, ◌⊎◌, ℕ, List, [], ◌∷◌, ◌++◌, true, false, Option, Some, None, IsSome, codes, string_bytes, Result, Ok, Err, ⊤}
use Rattle.ccr_history.specs.Text.{Text}
use Rattle.ccr_history.specs.TextMap.{TextMap}
use Rattle.ccr_history.specs.Builds.{BuildData, build_of}
use Rattle.ccr_history.specs.History.{HistoryData}
use Rattle.ccr_history.specs.declared.build.Status.{Status}
use Rattle.ccr_history.specs.declared.build.Status.TheVariants.{Succeeded}
use Rattle.ccr_pipeline.specs.Pipelines.{PipelineData, IsPipelineOf}
use Rattle.ccr_pipeline.specs.Faults.{fault_of}
use Rattle.ccr_pipeline.specs.Reading.{pipeline_faults, Refuses, IsReading}
use Rattle.ccr_pipeline.specs.declared.fault.ReadFault.{ReadFault}
use Rattle.ccr_pipeline.specs.declared.fault.ReadFault.TheVariants.{TooLong}
use Rattle.ccr_problem.specs.ProblemOf.{resource_of, job_of}
use Rattle.ccr_task.specs.Places.{PlacesData}
use Rattle.ccr_task.specs.Calls.{CallData}
use Rattle.ccr_task.specs.Calls as shelf
use Rattle.ccr_task.specs.declared.fault.ShelfFault.{ShelfFault}
use Rattle.ccr_task.specs.declared.fault.ShelfFault.TheVariants as shelf_fault
use Rattle.ccr_core.specs.declared.fault.CoreFault.TheVariants.{NoPipeline, NoJob, NoResource, NoBuild, BuildsOpen, TooManyOpen, TableFull, NoVersion}
use Rattle.ccr_core.specs.declared.reply.Reply.{Reply}
use Rattle.ccr_core.specs.declared.reply.Reply.TheVariants.{New, Made, OverBudget}
use Rattle.ccr_core.specs.Events as event
use Rattle.ccr_core.specs.Faults.{IsFirstFault}
use Rattle.ccr_core.specs.Holding.{Stands}
use Rattle.ccr_core.specs.State.{State, resources_of, jobs_of}
use Rattle.ccr_lines.specs.Needs.{pin_in, IsMet, Lacks, LacksPin}
use Rattle.ccr_lines.specs.Shown.{needs}
use Rattle.ccr_serve.specs.declared.fault.ServeFault.{ServeFault}
use Rattle.ccr_serve.specs.declared.fault.ServeFault.TheVariants.{Core, Store, Read, File, BadPin, NoMemory, TurnsUsedUp}
use Rattle.ccr_core.specs.Commands.{CommandData, set_pipeline, check_resource, pin_resource, unpin_resource, disable_version, enable_version, trigger_job, run, shows}
use Rattle.ccr_lines.specs.CommandNeeds.{need_of}
use Rattle.ccr_serve.specs.Items.{World, unmade, check, tell, show, Done, Each, Part, Items, Then}
use Rattle.ccr_serve.specs.Runs.{Rounds, UsedUp, Run, TriggerAndRun}
use Rattle.ccr_serve.specs.Serving.{Serves}
use Rattle.ccr_history.specs.Counts.{RoseBy}
use Rattle.ccr_serve.specs.Views.{View, with_calls, Calls}

-- ---- what is needed
abbrev pub HasResource : State → Text → Type 0
HasResource s name = IsSome (resource_of name (resources_of s))

abbrev pub HasJob : State → Text → Type 0
HasJob s name = IsSome (job_of name (jobs_of s))

-- what a command needs: a pipeline, in which what it names is there, and a pin that is one
abbrev pub IsFit : CommandData → State → Type 0
IsFit (set_pipeline file) s = ⊤
IsFit (check_resource resource) s = HasResource s resource
IsFit (pin_resource resource pin) s = HasResource s resource × IsSome (pin_in pin)
IsFit (unpin_resource resource) s = HasResource s resource
IsFit (disable_version resource place) s = HasResource s resource
IsFit (enable_version resource place) s = HasResource s resource
IsFit (trigger_job job) s = HasJob s job
IsFit (run rounds) s = IsSome s.pipeline
IsFit (shows what) s = IsMet (needs what) s.pipeline s.history

-- ---- statuses
-- the first event was replied so
abbrev pub IsFirstReply : List Done → Reply → Type 0
IsFirstReply [] r = ⊥
IsFirstReply (d ∷ ds) r = (e : event.EventData) × (d.event ≡ Some (e, Ok r))

-- 0 for a check whose versions were taken, else 1
abbrev pub IsCheckStatus : List Done → ℕ → Type 0
IsCheckStatus ds status =
    ((status ≡ 0) × ((n : ℕ) × IsFirstReply ds (New n)))
    ⊎ ((status ≡ 1) × ((n : ℕ) → IsFirstReply ds (New n) → ⊥))

-- 0 for a build that succeeded, else 1
abbrev pub build_status : Option BuildData → ℕ
build_status None = 1
build_status (Some b) = end_status b.status where
  end_status : Status → ℕ
  end_status Succeeded = 0
  end_status s = 1

-- 0 where the build that was made has succeeded, 3 over the budget, and else 1
abbrev pub trigger_status : Text → Reply → HistoryData → ℕ
trigger_status job (Made number) h = build_status (build_of job number h.builds)
trigger_status job (OverBudget n) h = 3
trigger_status job r h = 1

-- ---- commands
-- a part, of which this is so once it is whole: where it began, what was done, and where it led
abbrev pub Such : (World → List Done → World → Type 0) → Part → Part
Such Is P old ds true new = P old ds true new × Is old ds new
Such Is P old ds false new = P old ds false new

-- a job was triggered, and this was replied
abbrev pub Triggered : PlacesData → Text → Reply → Part
Triggered places job reply =
    Such (λ old ds new. HasJob old.core job × IsFirstReply ds reply)
    (Items (Serves places) (tell (event.trigger job) ∷ []))

-- the shelf had one call more
abbrev pub called : CallData → World → World
called call w = record { core = w.core; last = w.last; calls = w.calls ++ call ∷ []; lost = w.lost }

-- these bytes are this pipeline
abbrev pub ArePipeline : List ℕ → PipelineData → Type 0
ArePipeline bytes p = IsReading pipeline_faults bytes (λ d. IsPipelineOf bytes d p)

-- nothing was begun of the event of a pipeline in a file that was read so; or the event of the pipeline that its bytes are wasn't made
abbrev pub MaySet : Result (List ℕ) ShelfFault → World → World → Type 0
MaySet file old new =
    (new ≡ old)
    ⊎ ((bytes : List ℕ) × (p : PipelineData) × (file ≡ Ok bytes) × ArePipeline bytes p
    × (new ≡ unmade (event.set_pipeline p) old))

-- a pipeline is set that the bytes of the file at this path are, as they were read; cut short, the file was read
abbrev pub SetsPipeline : PlacesData → Text → Part
SetsPipeline places path old ds true new =
    (bytes : List ℕ) × (p : PipelineData) × ArePipeline bytes p
    × Each (Serves places) (tell (event.set_pipeline p) ∷ []) (called (shelf.read path (Ok bytes)) old) ds new
SetsPipeline places path old ds false new =
    (file : Result (List ℕ) ShelfFault) × (mid : World)
    × Each (Serves places) [] (called (shelf.read path file) old) ds mid × MaySet file mid new

-- a resource is pinned to the pin that a text spells
abbrev pub Pins : PlacesData → Text → Text → Part
Pins places resource text old ds true new =
    (p : TextMap) × (pin_in text ≡ Some p) × Each (Serves places) (tell (event.pin resource p) ∷ []) old ds new
Pins places resource text old ds false new =
    Each (Serves places) [] old ds new
    ⊎ ((p : TextMap) × (pin_in text ≡ Some p)
    × Items (Serves places) (tell (event.pin resource p) ∷ []) old ds false new)

-- what a command consists of, which ends with this status
abbrev pub Consists : PlacesData → CommandData → ℕ → Part
Consists places (set_pipeline file) status = Such (λ old ds new. status ≡ 0) (SetsPipeline places file)
Consists places (check_resource resource) status =
    Such (λ old ds new. IsCheckStatus ds status) (Items (Serves places) (check resource ∷ []))
Consists places (pin_resource resource pin) status = Such (λ old ds new. status ≡ 0) (Pins places resource pin)
Consists places (unpin_resource resource) status =
    Such (λ old ds new. status ≡ 0) (Items (Serves places) (tell (event.unpin resource) ∷ []))
Consists places (disable_version resource place) status =
    Such (λ old ds new. status ≡ 0) (Items (Serves places) (tell (event.disable resource place) ∷ []))
Consists places (enable_version resource place) status =
    Such (λ old ds new. status ≡ 0) (Items (Serves places) (tell (event.enable resource place) ∷ []))
Consists places (trigger_job job) status =
    Such (λ old ds new. (r : Reply) × IsFirstReply ds r × (status ≡ trigger_status job r new.core.history))
    (TriggerAndRun places job)
Consists places (run rounds) status = Such (λ old ds new. status ≡ 0) (Run places rounds)
Consists places (shows what) status = Items (Serves places) (show what status ∷ [])

-- WHAT A COMMAND DOES that ends with this status; it was fit
abbrev pub Commanded : PlacesData → CommandData → ℕ → Part
Commanded places c status = Such (λ old ds new. IsFit c old.core) (Consists places c status)

-- what a command does that takes as many turns as it may, and a build still runs
abbrev pub Unended : PlacesData → CommandData → Part
Unended places (trigger_job job) =
    Such (λ old ds new. HasJob old.core job)
    (Then (Items (Serves places) (tell (event.trigger job) ∷ [])) (UsedUp places))
Unended places (run rounds) =
    Such (λ old ds new. IsSome old.core.pipeline) (Then (Rounds places rounds) (UsedUp places))
Unended places c = λ old ds whole new. ⊥

-- ---- refusals
-- the whole pipeline is too long
abbrev pub IsTooLong : ReadFault → Type 0
IsTooLong (TooLong path) = string_bytes path ≡ codes "pipeline"
IsTooLong f = ⊥

-- the file at this path was read, which answered so; that was the one call from some calls of a shelf to others
abbrev pub IsRead : Text → Result (List ℕ) ShelfFault → List CallData → List CallData → Type 0
IsRead path file before after = after ≡ before ++ shelf.read path file ∷ []

-- a pipeline's text is refused with this fault: the file at this path is too long, or the bytes that were read are refused
abbrev pub IsReadFault : Text → ReadFault → List CallData → List CallData → Type 0
IsReadFault path f before after =
    (IsTooLong f × IsRead path (Err shelf_fault.TooLong) before after)
    ⊎ ((bytes : List ℕ) × IsRead path (Ok bytes) before after × IsSome (fault_of f)
    × Refuses (codes "pipeline") pipeline_faults bytes (fault_of f))

-- a command is refused so, with the shelf's calls before and after: no pipeline comes first, then an unknown name, then a
-- bad pin, and then what keeps the event away. Only a pipeline's file is read before; else the shelf isn't called
abbrev pub IsRefused : CommandData → ServeFault → State → List CallData → List CallData → Type 0
IsRefused c (Core NoPipeline) s before after = Lacks (need_of c) s.pipeline s.history NoPipeline × (after ≡ before)
IsRefused c (Core NoResource) s before after = Lacks (need_of c) s.pipeline s.history NoResource × (after ≡ before)
IsRefused c (Core NoJob) s before after = Lacks (need_of c) s.pipeline s.history NoJob × (after ≡ before)
IsRefused c (Core NoBuild) s before after = Lacks (need_of c) s.pipeline s.history NoBuild × (after ≡ before)
IsRefused (set_pipeline file) (Core BuildsOpen) s before after =
    (bytes : List ℕ) × (p : PipelineData) × ArePipeline bytes p × IsFirstFault s (event.set_pipeline p) BuildsOpen
    × IsRead file (Ok bytes) before after
IsRefused (trigger_job job) (Core TooManyOpen) s before after =
    IsFirstFault s (event.trigger job) TooManyOpen × (after ≡ before)
IsRefused (trigger_job job) (Core TableFull) s before after =
    IsFirstFault s (event.trigger job) TableFull × (after ≡ before)
IsRefused (disable_version resource place) (Core NoVersion) s before after =
    IsFirstFault s (event.disable resource place) NoVersion × (after ≡ before)
IsRefused (enable_version resource place) (Core NoVersion) s before after =
    IsFirstFault s (event.enable resource place) NoVersion × (after ≡ before)
IsRefused (set_pipeline file) (Read f) s before after = IsReadFault file f before after
IsRefused (set_pipeline file) File s before after = IsRead file (Err shelf_fault.Failed) before after
IsRefused (pin_resource resource pin) BadPin s before after =
    HasResource s resource × (pin_in pin ≡ None) × (after ≡ before)
IsRefused (shows what) BadPin s before after = LacksPin (needs what) s.pipeline × (after ≡ before)
IsRefused c f s before after = ⊥

-- a command was refused with this fault: but for the calls of its shelf nothing was done, and no commit was asked for
pub record WasRefused (places : PlacesData) (c : CommandData) (f : ServeFault) (old new : View) : Type 0 where
  pub why : (s : State) → Stands old.core s → IsRefused c f s old.calls new.calls
  pub back : Calls (Items (Serves places) []) (with_calls new.calls old) false new
  pub pairs : new.pairs ≡ old.pairs
  pub commits : RoseBy old.tally.commits 0 new.tally.commits
  pub lines : new.lines ≡ old.lines

-- WHAT CAME OF A COMMAND: it is done with a status; it was cut short; a build still ran after all its turns; or it was
-- refused
abbrev pub CameOf : PlacesData → CommandData → Result ℕ ServeFault → View → View → Type 0
CameOf places c (Ok status) old new = Calls (Commanded places c status) old true new
CameOf places c (Err NoMemory) old new = Calls (Commanded places c 0) old false new
CameOf places c (Err (Store f)) old new = Calls (Commanded places c 0) old false new
CameOf places c (Err TurnsUsedUp) old new = Calls (Unended places c) old true new
CameOf places c (Err f) old new = WasRefused places c f old new
