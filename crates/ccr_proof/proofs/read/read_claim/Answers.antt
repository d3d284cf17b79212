use Rattle.ccr_proof.proofs.ClaimLaws.{kept_of, found_of, alone_of, read_as}
use Rattle.ccr_proof.proofs.read.read_claim.Goals as goal

pub returns-clause-kept : goal.returns-clause-kept
returns-clause-kept c = kept_of c.read_whole.result c.args.bytes.now c.read_whole.ensures

pub returns-clause-found : goal.returns-clause-found
returns-clause-found c = found_of c.read_whole.result c.args.bytes.now c.read_whole.ensures

pub returns-clause-only : goal.returns-clause-only
returns-clause-only c = λ claim rules e. read_as c.read_whole.result c.args.bytes.now claim c.read_whole.ensures rules e

pub returns-clause-alone : goal.returns-clause-alone
returns-clause-alone c = alone_of c.read_whole.result c.args.bytes.now c.read_whole.ensures
