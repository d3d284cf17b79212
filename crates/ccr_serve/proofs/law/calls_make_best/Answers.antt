use Rattle.std.proofs.Common.{[], ◌∷◌, is_ok}
use Rattle.ccr_task.specs.Places.{places_data}
use Rattle.ccr_core.specs.Cores.{core_data}
use Rattle.ccr_serve.specs.Items as item
use Rattle.ccr_serve.specs.Runs.{Round}
use Rattle.ccr_serve.specs.Serving.{ItemsOf}
use Rattle.ccr_serve.specs.Views.{full_view}
use Rattle.ccr_serve.proofs.Leading.{items_led, round_led}
use Rattle.ccr_serve.proofs.Making.{core_reached, call_makes_best, came_makes_best}
use Rattle.ccr_serve.proofs.law.calls_make_best.Goals as goal

pub returns-clause-commands : goal.returns-clause-commands
returns-clause-commands g c = λ command result old new before after came.
    came_makes_best (places_data old.places) command result
    (full_view g.R.Runner g.S.Shelf g.T.Storage g.O.Lines old before)
    (full_view g.R.Runner g.S.Shelf g.T.Storage g.O.Lines new after) came

pub returns-clause-rounds : goal.returns-clause-rounds
returns-clause-rounds g c = λ result old new before after served.
    call_makes_best (Round (places_data old.places)) (round_led (places_data old.places))
    (full_view g.R.Runner g.S.Shelf g.T.Storage g.O.Lines old before)
    (full_view g.R.Runner g.S.Shelf g.T.Storage g.O.Lines new after) (is_ok result) served

pub returns-clause-turns : goal.returns-clause-turns
returns-clause-turns g c = λ result old new before after served.
    call_makes_best (ItemsOf (item.turn ∷ []) (places_data old.places))
    (items_led (places_data old.places) (item.turn ∷ []))
    (full_view g.R.Runner g.S.Shelf g.T.Storage g.O.Lines old before)
    (full_view g.R.Runner g.S.Shelf g.T.Storage g.O.Lines new after) (is_ok result) served

pub returns-clause-reached : goal.returns-clause-reached
returns-clause-reached g c = λ server core. core_reached (core_data server.core) core
