-- The event that triggers a job: made, refused, or kept away.
use Rattle.std.proofs.Common.{◌≡◌, ◌<◌, ◌++◌, List, [], ◌∷◌, true, Option, Some, IsSome, Ok, Err, refl, sym, ap, subst, ◌∙◌, arith, inl}
use Rattle.ccr_core.specs.declared.fault.CoreFault.{CoreFault}
use Rattle.ccr_core.specs.declared.fault.CoreFault.TheVariants as core_fault
use Rattle.ccr_core.specs.declared.reply.Reply.{Reply}
use Rattle.ccr_core.specs.Events.{EventData}
use Rattle.ccr_core.specs.Events as event
use Rattle.ccr_core.specs.Faults.{IsFirstFault}
use Rattle.ccr_core.specs.Replies.{Replied}
use Rattle.ccr_core.specs.State.{State}
use Rattle.ccr_core.specs.Steps.{Step}
use Rattle.ccr_history.specs.Text.{Text}
use Rattle.ccr_lines.specs.Lines.{lines_of}
use Rattle.ccr_task.specs.Places.{PlacesData}
use Rattle.ccr_task.specs.Calls.{CallData}
use Rattle.ccr_serve.specs.Aborts.{ended_at_once, Forgets}
use Rattle.ccr_serve.specs.Commanding.{HasJob, Triggered, IsRefused, Commanded, CameOf}
use Rattle.ccr_core.specs.Commands.{trigger_job}
use Rattle.ccr_serve.specs.Items.{World, Done, tell}
use Rattle.ccr_serve.specs.Serving.{Tells}
use Rattle.ccr_serve.specs.Views.{View, Calls, Made}
use Rattle.ccr_serve.specs.declared.fault.ServeFault.TheVariants as fault
use Rattle.ccr_serve.proofs.Refusing.{some_if, refused_by_core}
use Rattle.ccr_serve.proofs.Told.{made_so}
use Rattle.ccr_serve.proofs.Steps.{after, printed, MayStop, MayTell, tell_unmade, calls_made_then, lines_at}

-- nothing may be done of a command that triggers a job
pub trigger_stop : (places : PlacesData) (job : Text) → MayStop (Commanded places (trigger_job job) 0)
trigger_stop places job w = inl ([], tell (event.trigger job) ∷ [], refl, w, refl, inl refl)

pub trigger_unmade : (places : PlacesData) (job : Text)
    → MayTell (Commanded places (trigger_job job) 0) (event.trigger job)
trigger_unmade places job w = inl (tell_unmade places (event.trigger job) w)

-- ---- the core's reply
has_job : (job : Text) (s after : State) (r : Reply) → Step s (event.trigger job) (Ok r) after → HasJob s job
has_job job s after r step = subst (λ o. IsSome o) (sym step.1.1) refl

same_reply : (e : EventData) (o : Option (EventData × Replied)) (q r : Replied) → o ≡ Some (e, q) → o ≡ Some (e, r)
    → q ≡ r
same_reply e o q r is also =
    let pairs : ◌≡◌ {A = EventData × Replied} (e, q) (e, r) = cc (sym is ∙ also) in ap (λ p. p.1) pairs

trigger_told : (places : PlacesData) (job : Text) (r : Reply) (w u : World) (d : Done)
    → Tells places (event.trigger job) w d u → d.event ≡ Some (event.trigger job, Ok r)
    → Triggered places job r w (d ∷ []) true u
trigger_told places job r w u d tells made = (
  (u, (tells, (r, made)), refl),
  (
    has_job job w.core u.core r
        (subst (λ q. Step w.core (event.trigger job) q u.core)
        (same_reply (event.trigger job) d.event tells.makes.reply (Ok r) tells.makes.event made) tells.makes.step),
    (event.trigger job, made),
  ),
)

-- the trigger of a job was an event
pub trigger_made : {job named : Text} {replied : Replied} {r : Reply} {v n : View} {f : List CallData} {l m : Text}
    (places : PlacesData) → named ≡ job → replied ≡ Ok r → l ≡ v.lines
    → Made (event.trigger named) replied (printed v []) n
    → m ≡ l ++ lines_of (event.trigger job) (Ok r) n.core.history
    → Forgets places job (ended_at_once job (Ok r) n.core.history) v.calls f
    → Calls (Triggered places job r) v true (after n f n.pairs m)
trigger_made {job} {named} {replied} {r} {v} {n} {f} {l} {m} places copied is lines made told forgets =
    calls_made_then places (made_so v (ap (λ t. event.trigger t) copied) is made)
    (λ s a step stands. lines_at (event.trigger job) (Ok r) n.core a v.lines l m stands lines told)
    forgets (trigger_told places job r)

-- ---- the core's refusal
refused_so : (job : Text) (f : CoreFault) (s : State) (before after : List CallData) → after ≡ before
    → IsFirstFault s (event.trigger job) f → IsRefused (trigger_job job) (fault.Core f) s before after
refused_so job core_fault.NoPipeline s before after same first = (first.0, same)
refused_so job core_fault.NoJob s before after same first = let lt : 1 < 2 = omega arith in
    ((some_if s.pipeline (first.1 core_fault.NoPipeline lt), first.0), same)
refused_so job core_fault.NoResource s before after same first = absurd first.0
refused_so job core_fault.NoBuild s before after same first = absurd first.0
refused_so job core_fault.BuildsOpen s before after same first = absurd first.0
refused_so job core_fault.NotWanted s before after same first = absurd first.0
refused_so job core_fault.TooManyOpen s before after same first = (first, same)
refused_so job core_fault.TableFull s before after same first = (first, same)
refused_so job core_fault.NoVersion s before after same first = absurd first.0
refused_so job core_fault.NoMemory s before after same first = absurd first.0

-- the core refused to trigger a job
pub trigger_refused : {job named : Text} {replied : Replied} {f : CoreFault} {n : View} {l : Text} (places : PlacesData)
    (v : View) → named ≡ job → replied ≡ Err f → l ≡ v.lines → Made (event.trigger named) replied (printed v []) n
    → CameOf places (trigger_job job) (Err (fault.Core f)) v (printed n l)
trigger_refused {job} {named} {replied} {f} {n} places v copied is lines made =
    refused_by_core places (trigger_job job) v lines (made_so v (ap (λ t. event.trigger t) copied) is made)
    (λ s first. refused_so job f s v.calls n.calls made.rest.calls first)
