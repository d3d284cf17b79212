use Rattle.std.proofs.Common.{◌≡◌, ◌∙◌, [], ◌∷◌, true, replicate, refl, subst, arith}
use Rattle.ccr_task.specs.Places.{places_data}
use Rattle.ccr_serve.specs.Items.{Items, turn}
use Rattle.ccr_serve.specs.Serving.{Serves, ItemsOf}
use Rattle.ccr_serve.specs.Views.{full_view, Calls}
use Rattle.ccr_serve.proofs.Composing.{calls_none}
use Rattle.ccr_serve.proofs.Loops.{turns_more, turns_stop}
use Rattle.ccr_serve.proofs.Rounds.{moved}
use Rattle.ccr_serve.proofs.server.Server.take_turns.Goals as goal

pub loop-turn-init : goal.loop-turn-init
loop-turn-init g c =
    record {
      served = calls_none (Serves (places_data c.args.self.now.places)) c.requires.ready;
      ready = c.requires.ready;
      places = refl;
      waiting = λ none. none;
    }

pub loop-turn-preserved : goal.loop-turn-preserved
loop-turn-preserved g c =
    record {
      served = turns_more (Serves (places_data c.args.self.now.places)) turn c.loop-turn._turn
          c.loop-turn.invariant.served
          (moved (ItemsOf (turn ∷ [])) c.loop-turn.invariant.places c.in-Ok.ensures.served);
      ready = c.in-Ok.ensures.after.ends;
      places = c.in-Ok.ensures.after.places ∙ c.loop-turn.invariant.places;
      waiting = λ none. c.in-Ok.ensures.after.waiting (c.loop-turn.invariant.waiting none);
    }

pub returns-in-Err-clause-served : goal.returns-in-Err-clause-served
returns-in-Err-clause-served g c =
    turns_stop (Serves (places_data c.args.self.now.places)) turn c.loop-turn._turn c.args.count (omega arith)
    c.loop-turn.invariant.served (moved (ItemsOf (turn ∷ [])) c.loop-turn.invariant.places c.in-Err.ensures.served)

pub returns-clause-served : goal.returns-clause-served
returns-clause-served g c =
    let view = full_view g.R.Runner g.S.Shelf g.T.Storage g.O.Lines in
    let all : c.loop-turn._turn ≡ c.args.count = omega arith in
    subst (λ n. Calls (Items (Serves (places_data c.args.self.now.places)) (replicate n turn))
    (view c.args.self.now c.args.out.now) true (view c.loop-turn.self c.loop-turn.out)) all c.loop-turn.invariant.served
