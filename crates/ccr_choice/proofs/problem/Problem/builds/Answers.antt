use Rattle.std.proofs.lemmas.Grind.{common_steps}
use Rattle.std.proofs.Common.{arith}
use Rattle.ccr_choice.proofs.Bounds.{builds_kept}
use Rattle.ccr_choice.proofs.problem.Problem.builds.Goals as goal

pub returns-clause-kept : goal.returns-clause-kept
returns-clause-kept c = builds_kept c.args.self.now c.args.job c.builds.result.now c.jobs.ensures.kept c.requires (grind (arith, common_steps))
