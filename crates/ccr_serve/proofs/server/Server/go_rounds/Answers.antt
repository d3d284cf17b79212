use Rattle.std.proofs.Common.{◌≡◌, ◌∙◌, true, refl, subst, arith}
use Rattle.ccr_task.specs.Places.{places_data}
use Rattle.ccr_serve.specs.Runs.{Round, Rounds}
use Rattle.ccr_serve.specs.Serving.{Serves}
use Rattle.ccr_serve.specs.Views.{full_view, Calls}
use Rattle.ccr_serve.proofs.Composing.{calls_none}
use Rattle.ccr_serve.proofs.RoundParts.{rounds_more, rounds_stop}
use Rattle.ccr_serve.proofs.Rounds.{moved}
use Rattle.ccr_serve.proofs.server.Server.go_rounds.Goals as goal

pub loop-round-init : goal.loop-round-init
loop-round-init g c =
    record {
      served = calls_none (Serves (places_data c.args.self.now.places)) c.requires.ready;
      ready = c.requires.ready;
      places = refl;
      waiting = λ none. none;
    }

pub loop-round-preserved : goal.loop-round-preserved
loop-round-preserved g c =
    record {
      served = rounds_more (places_data c.args.self.now.places) c.loop-round._round c.loop-round.invariant.served
          (moved Round c.loop-round.invariant.places c.in-Ok.ensures.served);
      ready = c.in-Ok.ensures.after.ends;
      places = c.in-Ok.ensures.after.places ∙ c.loop-round.invariant.places;
      waiting = λ none. c.in-Ok.ensures.after.waiting (c.loop-round.invariant.waiting none);
    }

pub returns-in-Err-clause-served : goal.returns-in-Err-clause-served
returns-in-Err-clause-served g c =
    rounds_stop (places_data c.args.self.now.places) c.loop-round._round c.args.count (omega arith)
    c.loop-round.invariant.served (moved Round c.loop-round.invariant.places c.in-Err.ensures.served)

pub returns-clause-served : goal.returns-clause-served
returns-clause-served g c =
    let view = full_view g.R.Runner g.S.Shelf g.T.Storage g.O.Lines in
    let all : c.loop-round._round ≡ c.args.count = omega arith in
    subst (λ n. Calls (Rounds (places_data c.args.self.now.places) n)
    (view c.args.self.now c.args.out.now) true (view c.loop-round.self c.loop-round.out)) all
    c.loop-round.invariant.served
