use Rattle.std.proofs.Common.{ap, ◌∙◌}
use Rattle.ccr_history.specs.Changes.{with_pin}
use Rattle.ccr_history.proofs.PinMaps.{pinned}
use Rattle.ccr_history.proofs.pins.Pins.set.Goals as goal

pub invariant_of-self-2 : goal.invariant_of-self-2
invariant_of-self-2 c =
    (pinned c.in_ok-resource.resource c.args.resource.now c.args.pin c.self.inside.map.entries c.insert.new.self.entries
    c.in_ok-insert.ensures.entries c.in_ok-resource.ensures.ok c.self.invariant c.rules.ensures).1

pub returns-clause-ok : goal.returns-clause-ok
returns-clause-ok c =
    (pinned c.in_ok-resource.resource c.args.resource.now c.args.pin c.self.inside.map.entries c.insert.new.self.entries
    c.in_ok-insert.ensures.entries c.in_ok-resource.ensures.ok c.self.invariant c.rules.ensures).0
    ∙ ap (with_pin c.args.resource.now c.args.pin) c.self.view_is

pub returns-clause-kept : goal.returns-clause-kept
returns-clause-kept c =
    (pinned c.in_ok-resource.resource c.args.resource.now c.args.pin c.self.inside.map.entries c.insert.new.self.entries
    c.in_ok-insert.ensures.entries c.in_ok-resource.ensures.ok c.self.invariant c.rules.ensures).1
