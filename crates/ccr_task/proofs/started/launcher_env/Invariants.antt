use Rattle.std.proofs.Common.{◌≡◌, ◌++◌, drop}
use Rattle.ccr_process.specs.Launches.{variables_of}
use Rattle.ccr_task.specs.Starting.{launcher_env}
use Rattle.ccr_task.proofs.started.launcher_env.Given as goal

abbrev pub invariant-loop-variable : goal.invariant-loop-variable
invariant-loop-variable l =
    variables_of l.renamed.items ++ launcher_env (variables_of (drop l.variable-index l.env))
    ≡ launcher_env (variables_of l.env)
