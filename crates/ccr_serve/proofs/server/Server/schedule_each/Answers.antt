use Rattle.std.proofs.Common.{◌≡◌, ◌∙◌, length, refl, arith}
use Rattle.ccr_task.specs.Places.{places_data}
use Rattle.ccr_serve.specs.Items.{schedule}
use Rattle.ccr_serve.specs.Serving.{Serves}
use Rattle.ccr_serve.proofs.Composing.{calls_none}
use Rattle.ccr_serve.proofs.Rounds.{names_done, name_more, name_stop}
use Rattle.ccr_serve.proofs.server.Server.schedule_each.Goals as goal

pub loop-name-init : goal.loop-name-init
loop-name-init g c =
    record {
      served = calls_none (Serves (places_data c.args.self.now.places)) c.requires.ready;
      ready = c.requires.ready;
      places = refl;
      waiting = λ none. none;
    }

pub loop-name-preserved : goal.loop-name-preserved
loop-name-preserved g c =
    record {
      served = name_more schedule c.args.names.now c.loop-name.name-index c.name-item.result c.as_str.result.now
          (omega arith) c.name-item.is c.as_str.ensures.value c.loop-name.invariant.places c.loop-name.invariant.served
          c.in-Ok.ensures.served;
      ready = c.in-Ok.ensures.after.ends;
      places = c.in-Ok.ensures.after.places ∙ c.loop-name.invariant.places;
      waiting = λ none. c.in-Ok.ensures.after.waiting (c.loop-name.invariant.waiting none);
    }

pub returns-in-Err-clause-served : goal.returns-in-Err-clause-served
returns-in-Err-clause-served g c =
    name_stop schedule c.args.names.now c.loop-name.name-index c.name-item.result c.as_str.result.now (omega arith)
    c.name-item.is c.as_str.ensures.value c.loop-name.invariant.places c.loop-name.invariant.served
    c.in-Err.ensures.served

pub returns-clause-served : goal.returns-clause-served
returns-clause-served g c =
    let all : length c.args.names.now ≡ c.loop-name.name-index = omega arith in
    names_done (Serves (places_data c.args.self.now.places)) schedule c.args.names.now c.loop-name.name-index all
    c.loop-name.invariant.served
