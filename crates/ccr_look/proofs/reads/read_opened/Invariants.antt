use Rattle.ccr_look.specs.Noted.{noted}
use Rattle.ccr_look.proofs.Reading.{ReadsSoFar}
use Rattle.ccr_look.proofs.reads.read_opened.Given as goal

abbrev pub invariant-loop : goal.invariant-loop
invariant-loop g l =
    ReadsSoFar (g.R.File.Read.remaining l.fn.from.file) (g.R.File.Read.remaining l.from.file) (noted l.fn.reader) (noted l.reader)
    l.fn.from.path.now l.from.path.now l.most l.bytes.items l.counter
