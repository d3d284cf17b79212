use Rattle.std.proofs.Common.{◌≡◌, ◌+◌, drop, option_copied}
use Rattle.ccr_choice.specs.Problem.{builds_at}
use Rattle.ccr_choice.specs.Preference.{order_of}
use Rattle.ccr_proof.specs.Tree.{tree_of, trees_of, count, count_all}
use Rattle.ccr_proof.specs.Refutes.{Refutes, RefuteEach}
use Rattle.ccr_check.specs.declared.fault.CheckFault.{CheckFault}
use Rattle.ccr_check.specs.Fault.{IsFirstFault, IsFirstAmong}
use Rattle.ccr_choice.specs.Table.{assigned}
use Rattle.ccr_check.proofs.tree.+walk.Given as goal

abbrev pub invariant-loop-k : goal.invariant-loop-k
invariant-loop-k l = record {
  counted : l.next + count_all (trees_of (drop l.k l.children)) ≡ l.node + count (tree_of l.tree);
  refuted : RefuteEach (order_of l.problem) l.problem (option_copied l.bound) (assigned l.problem l.fixed) l.job (trees_of l.children) l.k (drop l.k (builds_at l.problem l.job)) (trees_of (drop l.k l.children))
      → Refutes (order_of l.problem) l.problem (option_copied l.bound) (assigned l.problem l.fixed) (tree_of l.tree);
  faulty : (f : CheckFault) → IsFirstAmong (order_of l.problem) l.problem (option_copied l.bound) (assigned l.problem l.fixed) l.next l.job (trees_of l.children) l.k (drop l.k (builds_at l.problem l.job)) (trees_of (drop l.k l.children)) f
      → IsFirstFault (order_of l.problem) l.problem (option_copied l.bound) (assigned l.problem l.fixed) l.node (tree_of l.tree) f;
}
