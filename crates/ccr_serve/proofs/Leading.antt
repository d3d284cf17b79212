-- What a call does is a run of the core.
use Rattle.std.proofs.Common.{◌≡◌, ◌++◌, ℕ, zero, suc, List, [], ◌∷◌, length, replicate, Bool, true, false, Option, Some, None, option_to_list, Ok, sym, ap, subst, inl, inr}
use Rattle.std.specs.Prelude.{IsSome}
use Rattle.ccr_history.specs.Text.{Text}
use Rattle.ccr_task.specs.Calls.{CallData}
use Rattle.ccr_task.specs.Calls as shelf
use Rattle.ccr_task.specs.Places.{PlacesData}
use Rattle.ccr_core.specs.declared.reply.Reply.{Reply}
use Rattle.ccr_core.specs.Commands.{CommandData, set_pipeline, check_resource, pin_resource, unpin_resource, disable_version, enable_version, trigger_job, run, shows}
use Rattle.ccr_core.specs.Events.{EventData}
use Rattle.ccr_core.specs.Events as event
use Rattle.ccr_core.specs.Kept.{IsEvent}
use Rattle.ccr_core.specs.State.{RunningData, State}
use Rattle.ccr_core.specs.Steps.{Step}
use Rattle.ccr_lines.specs.Lines.{lines_of}
use Rattle.ccr_serve.specs.Commanding.{IsFit, HasJob, IsFirstReply, IsCheckStatus, trigger_status, Such, called, MaySet, SetsPipeline, Pins, Consists, Commanded, Unended}
use Rattle.ccr_serve.specs.Found.{FoundData, found, nothing}
use Rattle.ccr_serve.specs.Items.{World, Item, check, schedule, turn, tell, show, Done, Each, IsCut, Part, Items, Then}
use Rattle.ccr_serve.specs.Runs.{checks_and_schedules, TurnOfEach, Round, Rounds, ToTheEnd, UsedUp, Run, TriggerAndRun}
use Rattle.ccr_serve.specs.Serving.{Makes, Reports, GoesOnBy, TakesTurn, BeginsTurn, DoesItem, BeginsItem, Serves, next_build}
use Rattle.ccr_serve.specs.Told.{Told, told, IsRun, AreRuns, ItemsAreRuns, RoundsAreRuns, CommandsAreRuns, UnendedAreRuns}

-- ---- one of what was done
-- what was done led from one state to the next as its event did, with its lines; without an event it led nowhere
abbrev pub By : Option Told → Text → State → State → Type 0
By None lines old new = new ≡ old
By (Some m) lines old new = Step old m.0 m.1 new × IsEvent m.0 × (lines ≡ lines_of m.0 m.1 new.history)

abbrev pub One : Done → State → State → Type 0
One d old new = By d.event d.lines old new

-- each led from where the one before it led
abbrev pub Led : List Done → State → State → Type 0
Led [] old new = new ≡ old
Led (d ∷ ds) old new = (mid : State) × One d old mid × Led ds mid new

pub led_both : (ds es : List Done) (old mid new : State) → Led ds old mid → Led es mid new → Led (ds ++ es) old new
led_both [] es old mid new first rest = subst (λ s. Led es s new) first rest
led_both (d ∷ ds) es old mid new (next, one, more) rest = (next, one, led_both ds es next mid new more rest)

by_event : (o : Option Told) (m : Told) (lines : Text) (old new : State) → o ≡ Some m → Step old m.0 m.1 new
    → IsEvent m.0 → lines ≡ lines_of m.0 m.1 new.history → By o lines old new
by_event o m lines old new is step kept are = subst (λ p. By p lines old new) (sym is) (step, kept, are)

by_none : (o : Option Told) (lines : Text) (old new : State) → o ≡ None → new ≡ old → By o lines old new
by_none o lines old new is same = subst (λ p. By p lines old new) (sym is) same

-- ---- each item
makes_one : (e : EventData) (old new : State) (d : Done) → Makes e old d new → One d old new
makes_one e old new d m = by_event d.event (e, m.reply) d.lines old new m.event m.step m.kept m.lines

reports_one : (resource : Text) (f : FoundData) (old new : State) (d : Done) → Reports resource f old d new → One d old new
reports_one resource (found vs) old new d m = makes_one (event.checked resource vs) old new d m
reports_one resource (nothing cause) old new d (none, lines, same) = by_none d.event d.lines old new none same

goes_one : (asked : Bool) (places : PlacesData) (b : RunningData) (old new : State) (before after : List CallData) (d : Done)
    (r : Reply) → GoesOnBy asked places b old before d r after new → One d old new
goes_one true places b old new before after d r (a, calls) =
    by_event d.event (event.abort b.job b.number, Ok r) d.lines old new a.event a.step tt a.lines
goes_one false places b old new before after d r a =
    by_event d.event (event.answer b.job b.number a.turn a.given, Ok r) d.lines old new a.event a.step a.kept a.lines

turn_one : (places : PlacesData) (o : Option RunningData) (old new : World) (d : Done) → TakesTurn places o old d new
    → One d old.core new.core
turn_one places None old new d (same, is) =
    by_none d.event d.lines old.core new.core (ap (λ (x : Done). x.event) same) (ap (λ (w : World). w.core) is)
turn_one places (Some b) old new d s =
    goes_one s.asked places b old.core new.core s.looked s.calls d s.reply s.goes_on

pub item_one : (places : PlacesData) (i : Item) (old new : World) (d : Done) → DoesItem places i old d new
    → One d old.core new.core
item_one places (check resource) old new d m = reports_one resource m.what old.core new.core d m.reports
item_one places (schedule job) old new d m = makes_one (event.schedule job) old.core new.core d m.makes
item_one places turn old new d m = turn_one places (next_build old) old new d m
item_one places (tell e) old new d (m, is) = makes_one e old.core new.core d m.makes
item_one places (show what status) old new d m =
    by_none d.event d.lines old.core new.core m.event (ap (λ (w : World). w.core) m.same)

turn_begun : (places : PlacesData) (o : Option RunningData) (old new : World) → BeginsTurn places o old new
    → new.core ≡ old.core
turn_begun places None old new b = absurd b
turn_begun places (Some x) old new b = b.core

begun_same : (places : PlacesData) (i : Item) (old new : World) → BeginsItem places i old new → new.core ≡ old.core
begun_same places (check resource) old new b = b.core
begun_same places (schedule job) old new b = ap (λ (w : World). w.core) b
begun_same places turn old new b = turn_begun places (next_build old) old new b
begun_same places (tell e) old new b = ap (λ (w : World). w.core) b
begun_same places (show what status) old new b = absurd b

cut_same : (places : PlacesData) (is : List Item) (old new : World) → IsCut (Serves places) is old new
    → new.core ≡ old.core
cut_same places is old new (inl same) = ap (λ (w : World). w.core) same
cut_same places [] old new (inr b) = absurd b
cut_same places (i ∷ is) old new (inr b) = begun_same places i old new b

-- ---- parts
-- whatever was done of a part led on
abbrev pub PartLeads : Part → Type 0
PartLeads P = (old : World) (ds : List Done) (whole : Bool) (new : World) → P old ds whole new → Led ds old.core new.core

pub each_led : (places : PlacesData) (is : List Item) (old : World) (ds : List Done) (new : World)
    → Each (Serves places) is old ds new → Led ds old.core new.core
each_led places [] old [] new same = ap (λ (w : World). w.core) same
each_led places [] old (d ∷ ds) new each = absurd each
each_led places (i ∷ is) old [] new each = absurd each
each_led places (i ∷ is) old (d ∷ ds) new (mid, does, each) =
    (mid.core, item_one places i old mid d does, each_led places is mid ds new each)

-- what was done, and then what leaves the core as it is
led_same : (ds : List Done) (old mid new : State) → Led ds old mid → new ≡ mid → Led ds old new
led_same ds old mid new led same = subst (λ s. Led ds old s) (sym same) led

pub items_led : (places : PlacesData) (is : List Item) → PartLeads (Items (Serves places) is)
items_led places is old ds true new each = each_led places is old ds new each
items_led places is old ds false new (front, rest, all, mid, each, cut) =
    led_same ds old.core mid.core new.core (each_led places front old ds mid each) (cut_same places rest mid new cut)

then_led : (First Second : Part) → PartLeads First → PartLeads Second → PartLeads (Then First Second)
then_led First Second first second old ds true new b =
    subst (λ l. Led l old.core new.core) (sym b.joined)
    (led_both b.front b.back old.core b.mid.core new.core (first old b.front true b.mid b.first)
    (second b.mid b.back true new b.second))
then_led First Second first second old ds false new (inl cut) = first old ds false new cut
then_led First Second first second old ds false new (inr b) =
    subst (λ l. Led l old.core new.core) (sym b.joined)
    (led_both b.front b.back old.core b.mid.core new.core (first old b.front true b.mid b.first)
    (second b.mid b.back false new b.second))

such_led : (Is : World → List Done → World → Type 0) (P : Part) → PartLeads P → PartLeads (Such Is P)
such_led Is P leads old ds true new (part, is) = leads old ds true new part
such_led Is P leads old ds false new part = leads old ds false new part

-- ---- rounds and turns
pub round_led : (places : PlacesData) → PartLeads (Round places)
round_led places old ds whole new part =
    then_led (Items (Serves places) (checks_and_schedules old.core)) (TurnOfEach places)
    (items_led places (checks_and_schedules old.core))
    (λ w es ended u. items_led places (replicate (length w.core.running) turn) w es ended u) old ds whole new part

rounds_led : (places : PlacesData) (n : ℕ) → PartLeads (Rounds places n)
rounds_led places zero = items_led places []
rounds_led places (suc n) = then_led (Round places) (Rounds places n) (round_led places) (rounds_led places n)

to_the_end_led : (places : PlacesData) → PartLeads (ToTheEnd places)
to_the_end_led places old ds true new (n, most, turns, none) = each_led places (replicate n turn) old ds new turns.0
to_the_end_led places old ds false new (n, most, mid, turns, cut) =
    led_same ds old.core mid.core new.core (each_led places (replicate n turn) old ds mid turns.0)
    (cut_same places (turn ∷ []) mid new cut)

used_up_led : (places : PlacesData) → PartLeads (UsedUp places)
used_up_led places old ds whole new (n, is, turns, some) = each_led places (replicate n turn) old ds new turns.0

run_led : (places : PlacesData) (n : ℕ) → PartLeads (Run places n)
run_led places n = then_led (Rounds places n) (ToTheEnd places) (rounds_led places n) (to_the_end_led places)

-- a job is triggered, and then this is done
triggered_led : (places : PlacesData) (job : Text) (P : Part) → PartLeads P
    → PartLeads (Then (Items (Serves places) (tell (event.trigger job) ∷ [])) P)
triggered_led places job P leads =
    then_led (Items (Serves places) (tell (event.trigger job) ∷ [])) P
    (items_led places (tell (event.trigger job) ∷ [])) leads

-- ---- commands
sets_led : (places : PlacesData) (path : Text) → PartLeads (SetsPipeline places path)
sets_led places path old ds true new (bytes, p, are, each) =
    each_led places (tell (event.set_pipeline p) ∷ []) (called (shelf.read path (Ok bytes)) old) ds new each
sets_led places path old ds false new (file, mid, each, may) =
    led_same ds old.core mid.core new.core (each_led places [] (called (shelf.read path file) old) ds mid each) (same may)
  where
    same : MaySet file mid new → new.core ≡ mid.core
    same (inl is) = ap (λ (w : World). w.core) is
    same (inr (bytes, p, got, are, is)) = ap (λ (w : World). w.core) is

pins_led : (places : PlacesData) (resource text : Text) → PartLeads (Pins places resource text)
pins_led places resource text old ds true new (p, is, each) =
    each_led places (tell (event.pin resource p) ∷ []) old ds new each
pins_led places resource text old ds false new (inl each) = each_led places [] old ds new each
pins_led places resource text old ds false new (inr (p, is, part)) =
    items_led places (tell (event.pin resource p) ∷ []) old ds false new part

-- a part that ends with status 0
fine_led : (status : ℕ) (P : Part) → PartLeads P → PartLeads (Such (λ old ds new. status ≡ 0) P)
fine_led status P leads = such_led (λ old ds new. status ≡ 0) P leads

tells_led : (places : PlacesData) (status : ℕ) (e : EventData)
    → PartLeads (Such (λ old ds new. status ≡ 0) (Items (Serves places) (tell e ∷ [])))
tells_led places status e = fine_led status (Items (Serves places) (tell e ∷ [])) (items_led places (tell e ∷ []))

consists_led : (places : PlacesData) (c : CommandData) (status : ℕ) → PartLeads (Consists places c status)
consists_led places (set_pipeline file) status = fine_led status (SetsPipeline places file) (sets_led places file)
consists_led places (check_resource resource) status =
    such_led (λ old ds new. IsCheckStatus ds status) (Items (Serves places) (check resource ∷ []))
    (items_led places (check resource ∷ []))
consists_led places (pin_resource resource pin) status =
    fine_led status (Pins places resource pin) (pins_led places resource pin)
consists_led places (unpin_resource resource) status = tells_led places status (event.unpin resource)
consists_led places (disable_version resource place) status = tells_led places status (event.disable resource place)
consists_led places (enable_version resource place) status = tells_led places status (event.enable resource place)
consists_led places (trigger_job job) status =
    such_led (λ old ds new. (r : Reply) × IsFirstReply ds r × (status ≡ trigger_status job r new.core.history))
    (TriggerAndRun places job) (triggered_led places job (ToTheEnd places) (to_the_end_led places))
consists_led places (run rounds) status = fine_led status (Run places rounds) (run_led places rounds)
consists_led places (shows what) status = items_led places (show what status ∷ [])

pub commanded_led : (places : PlacesData) (c : CommandData) (status : ℕ) → PartLeads (Commanded places c status)
commanded_led places c status =
    such_led (λ old ds new. IsFit c old.core) (Consists places c status) (consists_led places c status)

pub unended_led : (places : PlacesData) (c : CommandData) → PartLeads (Unended places c)
unended_led places (trigger_job job) =
    such_led (λ old ds new. HasJob old.core job)
    (Then (Items (Serves places) (tell (event.trigger job) ∷ [])) (UsedUp places))
    (triggered_led places job (UsedUp places) (used_up_led places))
unended_led places (run rounds) =
    such_led (λ old ds new. IsSome old.core.pipeline) (Then (Rounds places rounds) (UsedUp places))
    (then_led (Rounds places rounds) (UsedUp places) (rounds_led places rounds) (used_up_led places))
unended_led places c = λ old ds whole new part. absurd part

-- ---- what led on is a run
nothing_run : (s t : State) → t ≡ s → IsRun [] s t
nothing_run s t same = record { leads = same; events = tt }

event_run : (m : Told) (ms : List Told) (old mid new : State) → Step old m.0 m.1 mid → IsEvent m.0 → IsRun ms mid new
    → IsRun (m ∷ ms) old new
event_run m ms old mid new step kept rest = record { leads = (mid, step, rest.leads); events = (kept, rest.events) }

by_run : (o : Option Told) (lines : Text) (ms : List Told) (old mid new : State) → By o lines old mid → IsRun ms mid new
    → IsRun (option_to_list o ++ ms) old new
by_run None lines ms old mid new same rest = subst (λ s. IsRun ms s new) same rest
by_run (Some m) lines ms old mid new (step, kept, is) rest = event_run m ms old mid new step kept rest

pub led_run : (ds : List Done) (old new : State) → Led ds old new → IsRun (told ds) old new
led_run [] old new same = nothing_run old new same
led_run (d ∷ ds) old new (mid, one, more) =
    by_run d.event d.lines (told ds) old mid new one (led_run ds mid new more)

runs_by : (P : Part) → PartLeads P → AreRuns P
runs_by P leads old ds whole new part = led_run ds old.core new.core (leads old ds whole new part)

-- ---- the laws
pub items_are_runs : ItemsAreRuns
items_are_runs places is = runs_by (Items (Serves places) is) (items_led places is)

pub rounds_are_runs : RoundsAreRuns
rounds_are_runs places = runs_by (Round places) (round_led places)

pub commands_are_runs : CommandsAreRuns
commands_are_runs places c status = runs_by (Commanded places c status) (commanded_led places c status)

pub unended_are_runs : UnendedAreRuns
unended_are_runs places c = runs_by (Unended places c) (unended_led places c)
