use Rattle.std.proofs.Common.{◌≡◌, arith}
use Rattle.ccr_page.specs.Resources.{resource_pieces}
use Rattle.ccr_page.proofs.Adding.{adds_each, adds_all}
use Rattle.ccr_page.proofs.resource.push_each_resource.Goals as goal

pub loop-position-preserved : goal.loop-position-preserved
loop-position-preserved c =
    adds_each resource_pieces c.args.resources.now c.loop-position.position c.index-resources-position.result c.args.out.now.items c.loop-position.out.items c.push_resource.new.out.items
    c.loop-position-test.true c.index-resources-position.is c.loop-position.invariant c.in_ok-push_resource.ensures

pub returns : goal.returns
returns c =
    adds_all resource_pieces c.args.resources.now c.loop-position.position c.args.out.now.items c.loop-position.out.items (omega (arith, c.loop-position-test.false)) c.loop-position.invariant
