use Rattle.std.proofs.Common.{refl}
use Rattle.ccr_choice.proofs.Formats.{text_alone}
use Rattle.ccr_proof.specs.ClaimText.{claim_text}
use Rattle.ccr_proof.proofs.ClaimLaws.{claim_lines_format, claim_text_again, claim_kept, claim_text_found}
use Rattle.ccr_proof.proofs.law.claim_has_one_text.Goals as goal

pub returns-clause-read : goal.returns-clause-read
returns-clause-read c = λ claim rules. claim_text_again claim rules

pub returns-clause-written : goal.returns-clause-written
returns-clause-written c = λ bytes claim read. (claim_kept bytes claim read, claim_text_found bytes claim read)

pub returns-clause-alone : goal.returns-clause-alone
returns-clause-alone c = λ claim other more rules others e. text_alone claim_lines_format (claim_text claim) claim other more rules others refl e
