use Rattle.std.proofs.Common.{ap, sym}
use Rattle.ccr_proof.specs.Tree.{has_same}
use Rattle.ccr_proof.proofs.Trees.{tree_is}
use Rattle.ccr_proof.proofs.format.+has_same.Goals as goal

pub loop-child-init : goal.loop-child-init
loop-child-init t c = sym (ap has_same (tree_is c.args.node.now c.in-Job.field-0 c.in-Job.children c.deref-children.result.now c.in-Job.is c.deref-children.ensures.value))
