use Rattle.std.proofs.Common.{◌≡◌, ◌∙◌, true, false, length, refl, arith}
use Rattle.ccr_core.specs.Cores.{core_data}
use Rattle.ccr_task.specs.Places.{places_data}
use Rattle.ccr_serve.specs.Items.{check}
use Rattle.ccr_serve.specs.Serving.{Serves}
use Rattle.ccr_serve.proofs.Composing.{calls_none}
use Rattle.ccr_serve.proofs.Rounds.{unnoted, names_done, name_more, name_stop, name_there}
use Rattle.ccr_serve.proofs.Staying.{check_keeps_pipeline}
use Rattle.ccr_serve.proofs.server.Server.check_each.Goals as goal

pub loop-name-init : goal.loop-name-init
loop-name-init g c =
    record {
      served = calls_none (Serves (places_data c.args.self.now.places)) c.requires.ready;
      ready = c.requires.ready;
      pipeline = refl;
      places = refl;
      waiting = λ none. none;
    }

pub check-requires-clause-there : goal.check-requires-clause-there
check-requires-clause-there g c =
    name_there (core_data c.args.self.now.core).pipeline (core_data c.loop-name.self.core).pipeline c.args.names.now
    c.loop-name.name-index c.name-item.result c.as_str.result.now c.loop-name.invariant.pipeline (omega arith)
    c.name-item.is c.as_str.ensures.value c.requires.there

pub loop-name-preserved : goal.loop-name-preserved
loop-name-preserved g c =
    record {
      served = name_more check c.args.names.now c.loop-name.name-index c.name-item.result c.as_str.result.now
          (omega arith) c.name-item.is c.as_str.ensures.value c.loop-name.invariant.places c.loop-name.invariant.served
          (unnoted _ _ true c.in-Ok.ensures.served);
      ready = c.in-Ok.ensures.after.ends;
      pipeline = check_keeps_pipeline (places_data c.loop-name.self.places) c.as_str.result.now c.rules.ensures.reached
          (unnoted _ _ true c.in-Ok.ensures.served) ∙ c.loop-name.invariant.pipeline;
      places = c.in-Ok.ensures.after.places ∙ c.loop-name.invariant.places;
      waiting = λ none. c.in-Ok.ensures.after.waiting (c.loop-name.invariant.waiting none);
    }

pub returns-in-Err-clause-served : goal.returns-in-Err-clause-served
returns-in-Err-clause-served g c =
    name_stop check c.args.names.now c.loop-name.name-index c.name-item.result c.as_str.result.now (omega arith)
    c.name-item.is c.as_str.ensures.value c.loop-name.invariant.places c.loop-name.invariant.served
    (unnoted _ _ false c.in-Err.ensures.served)

pub returns-clause-served : goal.returns-clause-served
returns-clause-served g c =
    let all : length c.args.names.now ≡ c.loop-name.name-index = omega arith in
    names_done (Serves (places_data c.args.self.now.places)) check c.args.names.now c.loop-name.name-index all
    c.loop-name.invariant.served
