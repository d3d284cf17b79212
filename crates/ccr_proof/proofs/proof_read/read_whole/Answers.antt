use Rattle.std.proofs.Common.{ap, sym, ◌∙◌}
use Rattle.ccr_proof.specs.Tree.{tree_of}
use Rattle.ccr_proof.specs.ProofText.{next_proof}
use Rattle.ccr_proof.proofs.ProofLaws.{proof_kept}
use Rattle.ccr_proof.proofs.proof_read.read_whole.Goals as goal

pub invariant_of-result : goal.invariant_of-result
invariant_of-result c =
    let kept = proof_kept c.args.bytes.now (c.in-Ok.claim, tree_of c.in-Ok.tree) c.next_parts.new.lines (ap next_proof (sym c.new-lines.ensures) ∙ c.in-Ok.ensures) in
    record { short = kept.claim; few_nodes = kept.few_nodes; shallow = kept.shallow }
