use Rattle.ccr_core.specs.Cores.{core_data}
use Rattle.ccr_core.proofs.Disabling.{enabled_so}
use Rattle.ccr_core.proofs.parts.Parts.enable.Goals as goal

pub returns-in-Ok-with_place-clause-step : goal.returns-in-Ok-with_place-clause-step
returns-in-Ok-with_place-clause-step c =
    enabled_so (core_data c.args.self.now) c.args.resource.now c.args.place c.in-Ok.scope.now c.in-Ok.ensures.has c.in-Ok-with_place.history c.in-Ok-with_place.ensures.history
