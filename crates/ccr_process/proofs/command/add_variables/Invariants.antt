use Rattle.std.proofs.Common.{take}
use Rattle.ccr_process.specs.Launches.{variables_of}
use Rattle.ccr_process.specs.Commands.{AddsVariables}
use Rattle.ccr_process.proofs.command.add_variables.Given as goal

abbrev pub invariant-loop-name : goal.invariant-loop-name
invariant-loop-name l = AddsVariables l.initial.command (variables_of (take l.name-index l.env)) l.command
