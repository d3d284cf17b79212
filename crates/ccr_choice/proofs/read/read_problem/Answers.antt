use Rattle.ccr_choice.proofs.ReadLaws.{found_of, alone_of, read_as}
use Rattle.ccr_choice.proofs.read.read_problem.Goals as goal

pub returns-clause-found : goal.returns-clause-found
returns-clause-found c = found_of c.read_whole.result c.args.bytes.now c.read_whole.ensures.read c.read_whole.ensures.kept

pub returns-clause-only : goal.returns-clause-only
returns-clause-only c = λ p rules e. read_as c.read_whole.result c.args.bytes.now p c.read_whole.ensures.read rules e

pub returns-clause-alone : goal.returns-clause-alone
returns-clause-alone c = alone_of c.read_whole.result c.args.bytes.now c.read_whole.ensures.read c.read_whole.ensures.kept
