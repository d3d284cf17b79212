use Rattle.std.proofs.Common.{refl}
use Rattle.ccr_task.specs.Places.{places_data}
use Rattle.ccr_serve.proofs.Steps.{cut_at_once, items_stop}
use Rattle.ccr_serve.proofs.Turning.{turn_of_nobody}
use Rattle.ccr_serve.proofs.server.Server.take_turn.Goals as goal

pub returns-in-Ok-None-clause-served : goal.returns-in-Ok-None-clause-served
returns-in-Ok-None-clause-served g c =
    turn_of_nobody (places_data c.args.self.now.places) c.requires.ready
    (rw c.in-Ok-None.field-0-is at c.in-Ok-None.ensures.due)

pub returns-in-Err-clause-served : goal.returns-in-Err-clause-served
returns-in-Err-clause-served g c =
    cut_at_once _ (items_stop _ _) c.requires.ready refl

pub returns-in-Ok-clause-noted : goal.returns-in-Ok-clause-noted
returns-in-Ok-clause-noted g c =
    (c.in-Ok-Some.due, rw c.in-Ok-Some.field-0-is at c.in-Ok-Some.ensures.due, c.in-Ok.ensures.noted)
