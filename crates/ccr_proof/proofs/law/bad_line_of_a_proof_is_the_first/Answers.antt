use Rattle.ccr_proof.proofs.ProofForward.{proof_bad, proof_bad_back, many_there, many_back}
use Rattle.ccr_proof.proofs.law.bad_line_of_a_proof_is_the_first.Goals as goal

pub returns-clause-bad : goal.returns-clause-bad
returns-clause-bad c = λ bytes n. (proof_bad bytes n, proof_bad_back bytes n)

pub returns-clause-many : goal.returns-clause-many
returns-clause-many c = λ bytes. (many_there bytes, many_back bytes)
