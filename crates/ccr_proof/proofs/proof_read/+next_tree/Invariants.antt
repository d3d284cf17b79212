use Rattle.std.proofs.Common.{◌≡◌, ◌+◌, ◌-◌, ◌≤◌}
use Rattle.ccr_proof.specs.Tree.{trees_of, count_all}
use Rattle.ccr_proof.specs.ProofText.{next_children, next_tree}
use Rattle.ccr_proof.proofs.ReadTree.{with_children}
use Rattle.ccr_proof.proofs.proof_read.+next_tree.Given as goal

abbrev pub invariant-loop : goal.invariant-loop
invariant-loop l = record {
  read : with_children l.children.items (next_children (next_tree l.format (l.levels - 1)) (l.count - l.counter) l.nodes l.lines)
      ≡ next_children (next_tree l.format (l.levels - 1)) l.count (l.fn.nodes + 1) l.initial.lines;
  counted : l.nodes ≡ l.fn.nodes + 1 + count_all (trees_of l.children.items);
  few : l.nodes ≤ 1000000;
}

abbrev pub decreases-next_tree : goal.decreases-next_tree
decreases-next_tree l = l.levels
