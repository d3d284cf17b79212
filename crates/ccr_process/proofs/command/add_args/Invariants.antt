use Rattle.std.proofs.Common.{take}
use Rattle.ccr_process.specs.Launches.{texts_of}
use Rattle.ccr_process.specs.Commands.{AddsArgs}
use Rattle.ccr_process.proofs.command.add_args.Given as goal

abbrev pub invariant-loop-arg : goal.invariant-loop-arg
invariant-loop-arg l = AddsArgs l.initial.command (texts_of (take l.arg-index l.args)) l.command
