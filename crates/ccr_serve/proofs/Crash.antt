-- What a crash leaves of a server.
use Rattle.std.proofs.Common.{◌≡◌, List, [], ◌∷◌, Bool, true, false, Ok, refl, sym, subst}
use Rattle.ccr_history.specs.History.{HistoryData}
use Rattle.ccr_history.specs.Edits.{change_data, Accepts}
use Rattle.ccr_history.specs.Changes.{changed}
use Rattle.ccr_history.specs.declared.change.Edit.{Edit}
use Rattle.ccr_core.specs.declared.reply.Reply.{Reply}
use Rattle.ccr_core.specs.Events.{EventData}
use Rattle.ccr_core.specs.Going.{Changes}
use Rattle.ccr_core.specs.Holding.{CoreData, Stands, TakesStep}
use Rattle.ccr_core.specs.Kept.{IsEvent}
use Rattle.ccr_core.specs.State.{State}
use Rattle.ccr_serve.specs.Crash.{IsTorn, LeavesAt}
use Rattle.ccr_serve.specs.Views.{View, IsReady}

-- one that goes on: the history of each state that its core stands for
pub leaves_ready : (Is : EventData → Type 0) (v : View) (s : State) → IsReady v → Stands v.core s
    → LeavesAt v.closed Is v.leaves s
leaves_ready Is v s ready is =
    subst (λ b. LeavesAt b Is v.leaves s) (sym ready.is_open) (subst (λ h. v.leaves (h ∷ [])) is.0 ready.leaves)

-- what a commit says of the changed history it says of the history that the core has then
pub stored : (P : HistoryData → Type 0) (before after : HistoryData) (es change : List Edit) → es ≡ change
    → Changes change before after → (Accepts before es → P (changed (change_data es) before)) → P after
stored P before after es change same changes left =
    let made : Changes es before after = subst (λ edits. Changes edits before after) (sym same) changes in
    subst P made.1 (left made.0)

-- a server whose storage failed at an event that the core took
pub torn : (leaves : List HistoryData → Type 0) (old new : CoreData) (e : EventData) (r : Reply) → TakesStep old new e (Ok r)
    → IsEvent e → leaves (new.history ∷ old.history ∷ []) → (s : State) → Stands old s
    → IsTorn (λ x. x ≡ e) leaves s
torn leaves old new e r takes kept left s is =
    let step = takes s is in record {
      event = e;
      is_it = refl;
      reply = r;
      next = step.0;
      step = step.1;
      kept = kept;
      either = subst (λ h. leaves (step.0.history ∷ h ∷ [])) is.0
          (subst (λ h. leaves (h ∷ old.history ∷ [])) step.2.0 left);
    }

-- what is said of the event may be said in other words
pub leaves_as : {A B : EventData → Type 0} (closed : Bool) (leaves : List HistoryData → Type 0) (s : State)
    → ((e : EventData) → A e → B e) → LeavesAt closed A leaves s → LeavesAt closed B leaves s
leaves_as false leaves s f h = h
leaves_as true leaves s f h = record {
  event = h.event;
  is_it = f h.event h.is_it;
  reply = h.reply;
  next = h.next;
  step = h.step;
  kept = h.kept;
  either = h.either;
}
