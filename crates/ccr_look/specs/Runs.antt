-- Any number of runs over one database, each ended or killed at any moment.
use Rattle.std.specs.Prelude.{◌≡◌, List, [], ◌∷◌}
use Rattle.std.specs.List.{AllByRecursion}
use Rattle.sqlite_wal.specs.Recovery.{Image}
use Rattle.ccr_history.specs.Changes.{changed}
use Rattle.ccr_history.specs.History.{HistoryData}
use Rattle.ccr_core.specs.Events.{EventData}
use Rattle.ccr_core.specs.Kept.{IsEvent, IsStart}
use Rattle.ccr_core.specs.Replies.{Replied}
use Rattle.ccr_core.specs.Resumed.{resumed}
use Rattle.ccr_core.specs.State.{State}
use Rattle.ccr_core.specs.Steps as core
use Rattle.ccr_look.specs.Holding.{HoldsHistory}

-- a run: what the files held, the history that it found in them, the state in which its server began, the events that it stored,
-- with their replies, the state to which they lead, and what it left of the files
pub record Run : Type 0 where
  pub before : Image
  pub history : HistoryData
  pub start : State
  pub events : List EventData
  pub replies : List Replied
  pub last : State
  pub after : Image

-- A RUN, ended or killed at any moment: it begins with the history that the files held, in which what still ran is cut short; its
-- events lead on from there; and it leaves files that hold the history to which they lead. The last of them may be the one
-- that was being stored as the run was killed
pub record IsRun (r : Run) : Type 0 where
  pub found : (was : HistoryData) → HoldsHistory r.before was → r.history ≡ was
  pub begins : r.start.history ≡ changed (resumed r.history) r.history
  pub starts : IsStart r.start
  pub kept : AllByRecursion IsEvent r.events
  pub run : core.Run r.start r.events r.replies r.last
  pub left : ∥ HoldsHistory r.after r.last.history ∥₁

-- one run after another leads from these files to those: each finds the files that the one before it left
abbrev pub AreRuns : Image → List Run → Image → Type 0
AreRuns image [] end = end ≡ image
AreRuns image (r ∷ rs) end = (r.before ≡ image) × IsRun r × AreRuns r.after rs end

-- THEIR EVENTS AND RESTARTS ARE ONE LIST, from one history to another: each run begins with the history to which the events of
-- those before it lead
abbrev pub LeadOn : HistoryData → List Run → HistoryData → Type 0
LeadOn h [] after = after ≡ h
LeadOn h (r ∷ rs) after = (r.history ≡ h) × LeadOn r.last.history rs after
