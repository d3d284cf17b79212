use Rattle.std.proofs.Common.{◌≡◌, ◌++◌, ◌≤◌, drop, string_bytes}
use Rattle.ccr_choice.specs.Text.{text_of}
use Rattle.ccr_proof.specs.Tree.{tree_of, trees_of, count_all}
use Rattle.ccr_proof.specs.Proof.{IsSmall, AreSmall}
use Rattle.ccr_proof.specs.ProofText.{tree_lines, trees_lines}
use Rattle.ccr_proof.proofs.proof_write.+put_tree.Given as goal

abbrev pub invariant-loop-child : goal.invariant-loop-child
invariant-loop-child l = record {
  text : string_bytes l.out ++ text_of (trees_lines (trees_of (drop l.child-index l.children))) ≡ string_bytes l.fn.out ++ text_of (tree_lines (tree_of l.node));
  few : count_all (trees_of (drop l.child-index l.children)) ≤ 1000000;
  small : AreSmall (trees_of (drop l.child-index l.children)) → IsSmall (tree_of l.node);
}
