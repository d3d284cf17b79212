use Rattle.std.proofs.Common.{◌≡◌, map, drop}
use Rattle.ccr_pipeline.specs.Tree.{Text, variable_data}
use Rattle.ccr_task.specs.Environment.{value_at, value_of, or_value}
use Rattle.ccr_task.proofs.environment.add_all.Given as goal

abbrev pub invariant-loop-variable : goal.invariant-loop-variable
invariant-loop-variable l = (name : Text) → or_value (value_at l.env name) (value_of name (map variable_data (drop l.variable-index l.variables))) ≡ or_value (value_at l.initial.env name) (value_of name (map variable_data l.variables))
