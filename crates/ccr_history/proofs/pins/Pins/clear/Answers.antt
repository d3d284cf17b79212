use Rattle.std.proofs.Common.{◌≡◌, ap, ◌∙◌, is_some}
use Rattle.ccr_history.specs.Changes.{pin_of, without_pin}
use Rattle.ccr_history.specs.Pins.{pins_of}
use Rattle.ccr_history.proofs.PinLaws.{cleared_kept}
use Rattle.ccr_history.proofs.PinMaps.{lookup-pin_of, pins_of-remove_entry}
use Rattle.ccr_history.proofs.pins.Pins.clear.Goals as goal

pub invariant_of-self : goal.invariant_of-self
invariant_of-self c =
    let pins = pins_of c.self.inside.map.entries in
    let cleared : pins_of c.remove.new.self.entries ≡ without_pin c.args.resource.now pins =
    ap pins_of c.remove.ensures.entries ∙ pins_of-remove_entry c.args.resource.now c.self.inside.map.entries c.self.invariant.0 in
    rw cleared (cleared_kept c.args.resource.now pins c.self.invariant)

pub returns-clause-cleared : goal.returns-clause-cleared
returns-clause-cleared c =
    ap pins_of c.remove.ensures.entries ∙ pins_of-remove_entry c.args.resource.now c.self.inside.map.entries c.self.invariant.0
    ∙ ap (without_pin c.args.resource.now) c.self.view_is

pub returns-clause-had : goal.returns-clause-had
returns-clause-had c =
    c.is_some.ensures ∙ ap is_some (c.remove.ensures.value ∙ lookup-pin_of c.args.resource.now c.self.inside.map.entries)
    ∙ ap (λ pins. is_some (pin_of c.args.resource.now pins)) c.self.view_is
