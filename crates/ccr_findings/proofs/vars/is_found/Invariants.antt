use Rattle.std.proofs.Common.{◌≡◌, drop}
use Rattle.ccr_findings.specs.Vars.{has_variable, has_variable_behind}
use Rattle.ccr_findings.proofs.vars.is_found.Given as goal

abbrev pub invariant-loop-i : goal.invariant-loop-i
invariant-loop-i l = has_variable_behind l.last (drop l.i l.text) ≡ has_variable l.text
