use Rattle.ccr_process.specs.Launches.{variable_of}
use Rattle.ccr_process.proofs.Copies.{map_same}
use Rattle.ccr_process.proofs.launch.copy_variables.Goals as goal

pub returns : goal.returns
returns c = map_same variable_of _ (λ x y e. let name = e.0 in let value = e.1 in (cc)) c.args.env.now.items c.in_ok-copied.copied.items c.in_ok-copied.ensures.cases.0
