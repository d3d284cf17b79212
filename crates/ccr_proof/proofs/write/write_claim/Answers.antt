use Rattle.std.proofs.Common.{◌≡◌, arith, ap, ◌∙◌, string_bytes}
use Rattle.std.proofs.lemmas.Grind.{common_steps}
use Rattle.ccr_proof.specs.ClaimText.{claim_text, claim_in}
use Rattle.ccr_proof.proofs.ClaimLaws.{claim_text_again}
use Rattle.ccr_proof.proofs.write.write_claim.Goals as goal

pub returns-clause-again : goal.returns-clause-again
returns-clause-again c =
    let text : string_bytes c.put_line.new.out ≡ claim_text c.args.claim.now = grind (arith, common_steps) in
    ap claim_in text ∙ claim_text_again c.args.claim.now c.requires
