use Rattle.ccr_process.specs.Piping.{reads}
use Rattle.ccr_process.proofs.Calls.{ReadsSoFar}
use Rattle.ccr_process.proofs.pipes.take_output.Given as goal

abbrev pub invariant-loop : goal.invariant-loop
invariant-loop g l = ReadsSoFar (g.R.Read.remaining l.fn.pipe.reader) (g.R.Read.remaining l.pipe.reader) (reads l.fn.pipe) (reads l.pipe) l.keep l.output.items l.counter
