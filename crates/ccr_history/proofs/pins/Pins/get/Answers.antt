use Rattle.std.proofs.Common.{ap, ◌∙◌}
use Rattle.ccr_history.specs.Changes.{pin_of}
use Rattle.ccr_history.proofs.PinMaps.{lookup-pin_of}
use Rattle.ccr_history.proofs.pins.Pins.get.Goals as goal

pub returns : goal.returns
returns c =
    c.get.ensures.value ∙ lookup-pin_of c.args.resource.now c.self.inside.map.entries ∙ ap (pin_of c.args.resource.now) c.self.view_is
