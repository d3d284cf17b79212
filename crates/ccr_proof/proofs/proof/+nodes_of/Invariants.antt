use Rattle.std.proofs.Common.{◌≡◌, ◌+◌, drop}
use Rattle.ccr_proof.specs.Tree.{tree_of, trees_of, count, count_all}
use Rattle.ccr_proof.proofs.proof.+nodes_of.Given as goal

abbrev pub invariant-loop-child : goal.invariant-loop-child
invariant-loop-child l = l.nodes + count_all (trees_of (drop l.child-index l.children)) ≡ count (tree_of l.node)
