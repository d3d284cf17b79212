use Rattle.std.proofs.Common.{rules}
use Rattle.ccr_choice.proofs.Bounds.{few_jobs}
use Rattle.ccr_choice.proofs.problem.Problem.jobs.Goals as goal

pub returns-clause-few : goal.returns-clause-few
returns-clause-few c = few_jobs c.self.inside.inputs.items c.self.inside.jobs.items _ c.self.invariant (search rules)
