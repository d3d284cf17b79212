-- What a crash leaves of a server.
use Rattle.std.specs.Prelude.{List, [], ◌∷◌, Bool, true, false, Ok}
use Rattle.ccr_history.specs.History.{HistoryData}
use Rattle.ccr_core.specs.declared.reply.Reply.{Reply}
use Rattle.ccr_core.specs.Events.{EventData}
use Rattle.ccr_core.specs.Kept.{IsEvent}
use Rattle.ccr_core.specs.State.{State}
use Rattle.ccr_core.specs.Steps.{Step}

-- the storage failed while an event was being stored of which this is so, which the core takes in this state, and which keeps
-- what every event keeps: a crash leaves the history with it, or without it
pub record IsTorn (Is : EventData → Type 0) (leaves : List HistoryData → Type 0) (s : State) : Type 0 where
  pub event : EventData
  pub is_it : Is event
  pub reply : Reply
  pub next : State
  pub step : Step s event (Ok reply) next
  pub kept : IsEvent event
  pub either : leaves (next.history ∷ s.history ∷ [])

-- WHAT A CRASH LEAVES once the events that led to this state were acknowledged: while the server goes on, the history of
-- these events; once it has closed, that one, or the one with one event more, of which this is so
abbrev pub LeavesAt : Bool → (EventData → Type 0) → (List HistoryData → Type 0) → State → Type 0
LeavesAt false Is leaves s = leaves (s.history ∷ [])
LeavesAt true Is leaves s = IsTorn Is leaves s
