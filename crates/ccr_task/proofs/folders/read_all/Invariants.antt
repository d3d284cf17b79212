use Rattle.std.proofs.Common.{◌≤◌, vec_len}
use Rattle.std.specs.Io.KnownBytes.{Consumes}
use Rattle.ccr_task.specs.declared.shelf.TheConstants.{MOST_FILE}
use Rattle.ccr_task.proofs.folders.read_all.Given as goal

abbrev pub invariant-loop : goal.invariant-loop
invariant-loop g l = (vec_len l.bytes ≤ MOST_FILE) × Consumes (g.T.Read.remaining l.fn.reader) (g.T.Read.remaining l.reader) l.bytes.items
