use Rattle.ccr_core.specs.Cores.{core_data}
use Rattle.ccr_core.proofs.Disabling.{disabled_so}
use Rattle.ccr_core.proofs.parts.Parts.disable.Goals as goal

pub returns-in-Ok-without_place-clause-step : goal.returns-in-Ok-without_place-clause-step
returns-in-Ok-without_place-clause-step c =
    disabled_so (core_data c.args.self.now) c.args.resource.now c.args.place c.in-Ok.scope.now c.in-Ok.ensures.has c.in-Ok-without_place.history c.in-Ok-without_place.ensures.history
