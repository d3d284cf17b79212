use Rattle.std.proofs.Common.{refl}
use Rattle.ccr_choice.proofs.Formats.{text_alone}
use Rattle.ccr_proof.specs.ProofText.{proof_text}
use Rattle.ccr_proof.proofs.ProofLaws.{proof_format, proof_text_again, text_kept, proof_text_found}
use Rattle.ccr_proof.proofs.law.proof_has_one_text.Goals as goal

pub returns-clause-read : goal.returns-clause-read
returns-clause-read c = λ claim tree rules. proof_text_again (claim, tree) rules

pub returns-clause-written : goal.returns-clause-written
returns-clause-written c = λ bytes claim tree read. (text_kept bytes (claim, tree) read, proof_text_found bytes (claim, tree) read)

pub returns-clause-alone : goal.returns-clause-alone
returns-clause-alone c = λ claim other tree more_tree more rules others e.
    text_alone proof_format (proof_text claim tree) (claim, tree) (other, more_tree) more rules others refl e
