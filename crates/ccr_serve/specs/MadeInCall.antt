-- Which builds a call made, and that they used the best places then.
use Rattle.std.specs.List.{AllByRecursion}
use Rattle.std.specs.Prelude.{◌≡◌, ◌⊎◌, ℕ, List, [], ◌∷◌, ◌++◌, Bool, false, Some, Result, Ok, codes, Contains}
use Rattle.ccr_history.specs.Builds.{BuildData, build_of}
use Rattle.ccr_process.specs.declared.runner.Runner as runner
use Rattle.ccr_task.specs.declared.shelf.Shelf as shelf
use Rattle.ccr_core.specs.declared.reply.Reply.TheVariants.{Made}
use Rattle.ccr_core.specs.Commands.{CommandData}
use Rattle.ccr_core.specs.Cores.{core_data}
use Rattle.ccr_core.specs.Events.{EventData}
use Rattle.ccr_core.specs.Holding.{IsCore, Stands}
use Rattle.ccr_core.specs.Kept.{IsEvent, IsStart}
use Rattle.ccr_core.specs.MadeInRun.{IsKept, IsMadeBy}
use Rattle.ccr_core.specs.Replies.{Replied}
use Rattle.ccr_core.specs.State.{State}
use Rattle.ccr_core.specs.Steps as core
use Rattle.ccr_history.specs.declared.storage.Storage as storage
use Rattle.ccr_lines.specs.Lines.{build_line, end_line}
use Rattle.ccr_lines.specs.declared.lines.Lines as out
use Rattle.ccr_serve.specs.Items.{Done, lines_of_all}
use Rattle.ccr_serve.specs.Items as item
use Rattle.ccr_serve.specs.Runs.{Round}
use Rattle.ccr_serve.specs.Served.{Serving, Came}
use Rattle.ccr_serve.specs.Serving.{ItemsOf}
use Rattle.ccr_serve.specs.Told.{told, IsRun}
use Rattle.ccr_serve.specs.Views.{View, full_view}
use Rattle.ccr_serve.specs.declared.fault.ServeFault.{ServeFault}
use Rattle.ccr_serve.specs.declared.server.Server.{Server}

-- ---- what was done
-- ONE OF WHAT WAS DONE MADE THE BUILD: what was done before it leads to the state before its event. There the event made the
-- build, with the best places then, and the line JOB NUMBER made is the first of its lines. What was done after it leads on
-- to the end.
pub record MadeByOne (old : State) (ds : List Done) (new : State) (c : BuildData) : Type 0 where
  pub first : List Done
  pub one : Done
  pub rest : List Done
  pub all : ds ≡ first ++ one ∷ rest
  pub event : EventData
  pub reply : Replied
  pub its : one.event ≡ Some (event, reply)
  pub before : State
  pub then : State
  pub led : IsRun (told first) old before
  pub step : core.Step before event reply then
  pub leads : IsRun (told rest) then new
  pub made : IsMadeBy before event reply c
  pub lines : one.lines
      ≡ build_line c.job c.number (codes "made") ++ end_line c.job c.number (build_of c.job c.number then.history.builds)

-- this one of what was done made a build that the history has after it
abbrev pub MadeABuild : State → List Done → State → Done → Type 0
MadeABuild old ds new one =
    (c : BuildData) × IsKept new.history c × ((m : MadeByOne old ds new c) × (m.one ≡ one))

-- EACH BUILD in the history after what was done was in the history before it, and used the same; or one of what was done
-- made it, with the best places then. What a build used stays. Each one whose reply says that a build was made did make it.
pub record MakesBest (old : State) (ds : List Done) (new : State) : Type 0 where
  pub best : (c : BuildData) → Contains new.history.builds c → IsKept old.history c ⊎ MadeByOne old ds new c
  pub stays : (b : BuildData) → Contains old.history.builds b → IsKept new.history b
  pub said : (one : Done) (e : EventData) (n : ℕ) → Contains ds one → one.event ≡ Some (e, Ok (Made n))
      → MadeABuild old ds new one

-- ---- a call
-- events that keep what events keep lead to the state, from one in which nothing runs
pub record IsReachedBy (s : State) : Type 0 where
  pub start : State
  pub events : List EventData
  pub replies : List Replied
  pub starts : IsStart start
  pub kept : AllByRecursion IsEvent events
  pub run : core.Run start events replies s

-- what a call made from a state: it printed the lines of what was done, which is a run of the core; its storage holds the
-- history after that, and unless the server has closed its core stands for the state after it; and each build in that history
-- was there before the call, or was made with the best places then
pub record MakesFrom (s : State) (old new : View) : Type 0 where
  pub dones : List Done
  pub now : State
  pub run : IsRun (told dones) s now
  pub lines : new.lines ≡ old.lines ++ lines_of_all dones
  pub holds : new.holds now.history
  pub goes_on : new.closed ≡ false → Stands new.core now
  pub makes : MakesBest s dones now

-- WHAT A CALL MADE, from each state that events lead to and that the core stood for. Every core stands for such a state
abbrev pub CallMakesBest : View → View → Type 0
CallMakesBest old new = (s : State) → IsReachedBy s → Stands old.core s → MakesFrom s old new

-- calls of a server with this runner, this shelf and this storage, whose lines go here
module _ {R S T O : Type 0} (r : runner.Ghosts R) (s : shelf.Ghosts S) (t : storage.Ghosts T) (o : out.Ghosts O) where
  -- A CORE STANDS for a state that events lead to
  abbrev pub CoresAreReached : Type 0
  CoresAreReached = (server : Server R S T) → IsCore (core_data server.core)
      → (s : State) × IsReachedBy s × Stands (core_data server.core) s

  -- WHATEVER CAME OF A COMMAND, the builds that it made used the best places then
  abbrev pub CommandsMakeBest : Type 0
  CommandsMakeBest =
      (c : CommandData) (result : Result ℕ ServeFault) (old new : Server R S T) (before after : O)
      → Came r s t o c result old new before after
      → CallMakesBest (full_view r s t o old before) (full_view r s t o new after)

  -- WHATEVER CAME OF A ROUND, likewise
  abbrev pub RoundsMakeBest : Type 0
  RoundsMakeBest =
      (result : Result (Unit {0}) ServeFault) (old new : Server R S T) (before after : O)
      → Serving r s t o Round result old new before after
      → CallMakesBest (full_view r s t o old before) (full_view r s t o new after)

  -- WHATEVER CAME OF A TURN, likewise
  abbrev pub TurnsMakeBest : Type 0
  TurnsMakeBest =
      (result : Result Bool ServeFault) (old new : Server R S T) (before after : O)
      → Serving r s t o (ItemsOf (item.turn ∷ [])) result old new before after
      → CallMakesBest (full_view r s t o old before) (full_view r s t o new after)
