use Rattle.std.proofs.Common.{◌≡◌, arith, ap, ◌∙◌, string_bytes}
use Rattle.std.proofs.lemmas.Grind.{common_steps}
use Rattle.ccr_proof.specs.Tree.{tree_of}
use Rattle.ccr_proof.specs.Proof.{IsProof}
use Rattle.ccr_proof.specs.ProofText.{proof_text, proof_in}
use Rattle.ccr_proof.proofs.ProofLaws.{proof_text_again}
use Rattle.ccr_proof.proofs.proof_write.write_proof.Goals as goal

pub returns-clause-again : goal.returns-clause-again
returns-clause-again c =
    let proof = c.args.proof.now in
    let text : string_bytes c.put_tree.new.out ≡ proof_text proof.claim (tree_of proof.tree) = grind (arith, common_steps) in
    let kept : IsProof proof.claim (tree_of proof.tree) =
    record { claim = proof.short; numbers = c.in_ok-put_tree.ensures.small; few_nodes = proof.few_nodes; shallow = proof.shallow } in
    ap proof_in text ∙ proof_text_again (proof.claim, tree_of proof.tree) kept

pub returns-clause-kept : goal.returns-clause-kept
returns-clause-kept c =
    let proof = c.args.proof.now in
    record { claim = proof.short; numbers = c.in_ok-put_tree.ensures.small; few_nodes = proof.few_nodes; shallow = proof.shallow }
