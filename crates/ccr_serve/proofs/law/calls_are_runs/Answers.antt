use Rattle.ccr_serve.proofs.Leading.{items_are_runs, rounds_are_runs, commands_are_runs, unended_are_runs}
use Rattle.ccr_serve.proofs.law.calls_are_runs.Goals as goal

pub returns-clause-items : goal.returns-clause-items
returns-clause-items c = items_are_runs

pub returns-clause-rounds : goal.returns-clause-rounds
returns-clause-rounds c = rounds_are_runs

pub returns-clause-commands : goal.returns-clause-commands
returns-clause-commands c = commands_are_runs

pub returns-clause-unended : goal.returns-clause-unended
returns-clause-unended c = unended_are_runs
