use Rattle.ccr_steps.specs.Runs.{run_data}
use Rattle.ccr_steps.proofs.Aborting.{leaves_hooks}
use Rattle.ccr_steps.proofs.Standing.{stands_outcome, stands_begun}
use Rattle.ccr_steps.proofs.build.BuildRun.outcome.Goals as goal

pub returns-clause-outcome : goal.returns-clause-outcome
returns-clause-outcome c = λ plan inputs es s. stands_outcome (run_data c.args.self.now) plan inputs es s

pub returns-clause-begun : goal.returns-clause-begun
returns-clause-begun c = λ plan inputs es s. stands_begun (run_data c.args.self.now) plan inputs es s

pub returns-clause-aborts : goal.returns-clause-aborts
returns-clause-aborts c = λ plan inputs es s. leaves_hooks inputs plan es c.args.self.now.at.outcome (stands_outcome (run_data c.args.self.now) plan inputs es s)
