use Rattle.std.proofs.Common.{◌≡◌, drop}
use Rattle.ccr_proof.specs.Tree.{tree_of, trees_of, has_same, have_same}
use Rattle.ccr_proof.proofs.format.+has_same.Given as goal

abbrev pub invariant-loop-child : goal.invariant-loop-child
invariant-loop-child l = have_same (trees_of (drop l.child-index l.children)) ≡ has_same (tree_of l.node)
