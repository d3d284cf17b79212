use Rattle.std.proofs.Common.{ap}
use Rattle.ccr_run.specs.Explained.{ToldData, told_data}
use Rattle.ccr_run.proofs.Told.{gates_alone, told_of}
use Rattle.ccr_run.proofs.Writing.{tells_both}
use Rattle.ccr_run.proofs.obey.do_command.Goals as goal

pub tell_gates-requires : goal.tell_gates-requires
tell_gates-requires g c = ap (λ (t : ToldData). t.gates) c.requires.untold

pub tell-status-requires : goal.tell-status-requires
tell-status-requires g c = gates_alone _ _ c.requires.untold c.tell_gates.ensures.rest

pub returns-clause-did : goal.returns-clause-did
returns-clause-did g c = (
  c.run-ran.result.outcome,
  c.run-ran.ensures.served,
  c.run-ran.ensures.printed,
  told_of c.args.order.now c.run-ran.result.outcome _ _ (told_data c.tell_gates.new.telling) (told_data c.tell-status.new.telling) c.text.ensures c.tell_gates.ensures.gates c.tell-status.ensures.told,
  c.tell-status.ensures.status,
)

pub returns-clause-wrote : goal.returns-clause-wrote
returns-clause-wrote g c =
    tells_both c.args.order.now c.run-ran.result.outcome (told_data c.tell_gates.new.telling) (told_data c.tell-status.new.telling)
    c.args.telling.now.errors c.tell_gates.new.telling.errors c.tell-status.new.telling.errors
    c.tell_gates.ensures.wrote c.tell-status.ensures.wrote c.tell-status.ensures.told
