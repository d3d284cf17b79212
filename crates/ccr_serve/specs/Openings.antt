-- Which builds were made over any number of openings of one database.
use Rattle.std.specs.Prelude.{◌≡◌, ◌⊎◌, ℕ, List, [], ◌∷◌, Contains}
use Rattle.std.specs.List.{AllByRecursion}
use Rattle.ccr_history.specs.Builds.{BuildData}
use Rattle.ccr_history.specs.Changes.{changed}
use Rattle.ccr_history.specs.History.{HistoryData, IsHistory, no_history}
use Rattle.ccr_core.specs.declared.parts.Parts.{Parts}
use Rattle.ccr_core.specs.Cores.{core_data}
use Rattle.ccr_core.specs.Events.{EventData}
use Rattle.ccr_core.specs.Holding.{Stands}
use Rattle.ccr_core.specs.Kept.{IsEvent, IsStart}
use Rattle.ccr_core.specs.MadeInRun.{IsKept, MadeInRun}
use Rattle.ccr_core.specs.Replies.{Replied}
use Rattle.ccr_core.specs.Resumed.{resumed, IsResumed}
use Rattle.ccr_core.specs.State.{State}
use Rattle.ccr_core.specs.Steps as core

-- a server that opens a database with this history begins in this state: each build that ran was cut short, and nothing runs
pub record BeginsIn (h : HistoryData) (s : State) : Type 0 where
  pub history : s.history ≡ changed (resumed h) h
  pub starts : IsStart s

-- A SERVER BEGINS in such a state, whichever its core stands for
abbrev pub ResumedBegins : Type 0
ResumedBegins =
    (h : HistoryData) (budget : ℕ) (parts : Parts) (s : State) → IsHistory h → IsResumed h budget (core_data parts)
    → Stands (core_data parts) s → BeginsIn h s

-- an opening of a database: the state in which its server begins, the events of its calls, with their replies, and the
-- state to which they lead
pub record Opening : Type 0 where
  pub start : State
  pub events : List EventData
  pub replies : List Replied
  pub last : State

-- a database with this history was opened so
pub record IsOpening (h : HistoryData) (o : Opening) : Type 0 where
  pub begins : BeginsIn h o.start
  pub kept : AllByRecursion IsEvent o.events
  pub run : core.Run o.start o.events o.replies o.last

-- one opening after another leads from one history to another: each begins with the history that the one before left
abbrev pub AreOpenings : HistoryData → List Opening → HistoryData → Type 0
AreOpenings h [] after = after ≡ h
AreOpenings h (o ∷ os) after = IsOpening h o × AreOpenings o.last.history os after

-- the build was made at one moment of one of these openings, with the best places then
pub record MadeInOne (os : List Opening) (c : BuildData) : Type 0 where
  pub opening : Opening
  pub there : Contains os opening
  pub made : MadeInRun opening.start opening.last opening.events opening.replies c

-- EACH BUILD after any number of openings was there before them, and used the same; or it was made in one of them, with the best
-- places then
abbrev pub OpeningsMakeBest : Type 0
OpeningsMakeBest =
    (h after : HistoryData) (os : List Opening) → AreOpenings h os after
    → (c : BuildData) → Contains after.builds c → IsKept h c ⊎ MadeInOne os c

-- FROM AN EMPTY DATABASE each build was made in one of its openings, with the best places then
abbrev pub AllIsMadeBest : Type 0
AllIsMadeBest =
    (after : HistoryData) (os : List Opening) → AreOpenings no_history os after
    → (c : BuildData) → Contains after.builds c → MadeInOne os c

-- WHAT A BUILD USED stays, however often the database is opened
abbrev pub UsedStaysOverOpenings : Type 0
UsedStaysOverOpenings =
    (h after : HistoryData) (os : List Opening) → AreOpenings h os after
    → (b : BuildData) → Contains h.builds b → IsKept after b
