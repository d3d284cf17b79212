use Rattle.ccr_proof.proofs.ProofForward.{claim_bad, claim_bad_back}
use Rattle.ccr_proof.proofs.law.bad_line_of_a_claim_is_the_first.Goals as goal

pub returns : goal.returns
returns c = λ bytes n. (claim_bad bytes n, claim_bad_back bytes n)
