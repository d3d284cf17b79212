use Rattle.ccr_proof.proofs.Trees.{count_is}
use Rattle.ccr_proof.proofs.proof.+nodes_of.Goals as goal

pub loop-child-init : goal.loop-child-init
loop-child-init t c = count_is c.args.node.now c.in-Job.field-0 c.in-Job.children c.deref-children.result.now c.in-Job.is c.deref-children.ensures.value
