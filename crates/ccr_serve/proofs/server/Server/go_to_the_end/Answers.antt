use Rattle.std.proofs.Common.{◌∙◌, [], ◌∷◌, true, refl, arith}
use Rattle.ccr_core.specs.Cores.{core_data}
use Rattle.ccr_core.specs.Holding.{name_data}
use Rattle.ccr_task.specs.Places.{places_data}
use Rattle.ccr_serve.specs.Items.{turn}
use Rattle.ccr_serve.specs.Serving.{ItemsOf}
use Rattle.ccr_serve.proofs.Ending.{end_begins, end_more, end_stop, ends_early, ends_late}
use Rattle.ccr_serve.proofs.Ends.{maps_none, maps_some, some_left}
use Rattle.ccr_serve.proofs.Staying.{turns_make_events}
use Rattle.ccr_serve.proofs.Rounds.{moved}
use Rattle.ccr_serve.proofs.server.Server.go_to_the_end.Goals as goal

pub loop-turn-init : goal.loop-turn-init
loop-turn-init g c =
    record {
      served = end_begins (places_data c.args.self.now.places) c.requires.ready;
      ready = c.requires.ready;
      places = refl;
      waiting = λ none. none;
    }

pub loop-turn-preserved : goal.loop-turn-preserved
loop-turn-preserved g c =
    record {
      served = end_more (places_data c.args.self.now.places) (turns_make_events (places_data c.args.self.now.places))
          c.loop-turn._turn
          (some_left name_data c.running.result.now (core_data c.loop-turn.self.core).names c.is_empty.result
          c.running.ensures.names c.is_empty.ensures c.if-is_empty.false) c.loop-turn.invariant.served
          (moved (ItemsOf (turn ∷ [])) c.loop-turn.invariant.places c.in-Ok.ensures.served);
      ready = c.in-Ok.ensures.after.ends;
      places = c.in-Ok.ensures.after.places ∙ c.loop-turn.invariant.places;
      waiting = λ none. c.in-Ok.ensures.after.waiting (c.loop-turn.invariant.waiting none);
    }

pub returns-then-is_empty-clause-served : goal.returns-then-is_empty-clause-served
returns-then-is_empty-clause-served g c =
    ends_early (places_data c.args.self.now.places) c.loop-turn._turn c.loop-turn.invariant.served (omega arith) true
    refl (λ _. maps_none name_data c.running.result.now (core_data c.loop-turn.self.core).names
    c.is_empty.result c.running.ensures.names c.is_empty.ensures c.if-is_empty.true)

pub returns-in-Err-clause-served : goal.returns-in-Err-clause-served
returns-in-Err-clause-served g c =
    end_stop (places_data c.args.self.now.places) (turns_make_events (places_data c.args.self.now.places))
    c.loop-turn._turn
    (omega arith) (some_left name_data c.running.result.now (core_data c.loop-turn.self.core).names c.is_empty.result
    c.running.ensures.names c.is_empty.ensures c.if-is_empty.false)
    c.loop-turn.invariant.served (moved (ItemsOf (turn ∷ [])) c.loop-turn.invariant.places c.in-Err.ensures.served)

pub returns-clause-served : goal.returns-clause-served
returns-clause-served g c =
    ends_late (places_data c.args.self.now.places) c.loop-turn._turn c.loop-turn.invariant.served (omega arith)
    c.is_empty-2.result (maps_none name_data c.running-2.result.now (core_data c.loop-turn.self.core).names
    c.is_empty-2.result c.running-2.ensures.names c.is_empty-2.ensures)
    (maps_some name_data c.running-2.result.now (core_data c.loop-turn.self.core).names
    c.is_empty-2.result c.running-2.ensures.names c.is_empty-2.ensures)
