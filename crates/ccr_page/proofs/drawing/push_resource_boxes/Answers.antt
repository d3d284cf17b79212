use Rattle.std.proofs.Common.{◌≡◌, arith}
use Rattle.ccr_page.specs.Drawings.{resource_at}
use Rattle.ccr_page.proofs.Adding.{adds_each, adds_all}
use Rattle.ccr_page.proofs.drawing.push_resource_boxes.Goals as goal

pub loop-position-preserved : goal.loop-position-preserved
loop-position-preserved c =
    adds_each (resource_at c.args.boxes.now) c.args.resources.now c.loop-position.position c.index-resources-position.result c.args.out.now.items c.loop-position.out.items c.push_resource_at.new.out.items
    c.loop-position-test.true c.index-resources-position.is c.loop-position.invariant c.in_ok-push_resource_at.ensures

pub returns : goal.returns
returns c =
    adds_all (resource_at c.args.boxes.now) c.args.resources.now c.loop-position.position c.args.out.now.items c.loop-position.out.items (omega (arith, c.loop-position-test.false)) c.loop-position.invariant
