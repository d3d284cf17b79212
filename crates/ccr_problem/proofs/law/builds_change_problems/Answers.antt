use Rattle.ccr_problem.proofs.Ends.{made_brings, unsuccessful_end_leaves, success_adds}
use Rattle.ccr_problem.proofs.law.builds_change_problems.Goals as goal

pub returns-clause-made : goal.returns-clause-made
returns-clause-made c = made_brings

pub returns-clause-unsuccessful : goal.returns-clause-unsuccessful
returns-clause-unsuccessful c = unsuccessful_end_leaves

pub returns-clause-succeeded : goal.returns-clause-succeeded
returns-clause-succeeded c = success_adds
