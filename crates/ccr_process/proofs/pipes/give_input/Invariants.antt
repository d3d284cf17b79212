use Rattle.ccr_process.specs.Piping.{writes}
use Rattle.ccr_process.proofs.Calls.{WritesSoFar}
use Rattle.ccr_process.proofs.pipes.give_input.Given as goal

abbrev pub invariant-loop : goal.invariant-loop
invariant-loop g l = WritesSoFar (g.W.Write.contents l.fn.pipe.writer) (g.W.Write.contents l.pipe.writer) (writes l.fn.pipe) (writes l.pipe) l.input l.rest l.counter
