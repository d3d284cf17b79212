use Rattle.std.proofs.Common.{◌≡◌, ℕ, ap, subst}
use Rattle.ccr_proof.specs.Tree.{tree_of, trees_of, same_as}
use Rattle.ccr_proof.specs.Refutes.{IsSameCase}
use Rattle.ccr_check.proofs.tree.is_same.Goals as goal

pub returns-in-Same : goal.returns-in-Same
returns-in-Same c = λ b at.
    let q = c.in-Same.earlier in
    let is : tree_of c.args.child.now ≡ same_as q = ap tree_of c.in-Same.is in
    let P : ℕ → Type 0 = λ n. IsSameCase c.args.problem.now c.args.job (trees_of c.args.children.now) c.args.k b n in
    let case = c.is_same_case.ensures b at in (
      λ t. (q, is, case.0 t),
      λ h. let same : h.0 ≡ q = cc (h.1, is) in case.1 (subst P same h.2),
    )
