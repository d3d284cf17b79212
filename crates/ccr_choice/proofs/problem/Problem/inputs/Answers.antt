use Rattle.std.proofs.Common.{rules}
use Rattle.ccr_choice.proofs.Bounds.{few_inputs}
use Rattle.ccr_choice.proofs.problem.Problem.inputs.Goals as goal

pub returns-clause-few : goal.returns-clause-few
returns-clause-few c = few_inputs c.self.inside.inputs.items _ c.self.inside.jobs.items c.self.invariant (search rules)
