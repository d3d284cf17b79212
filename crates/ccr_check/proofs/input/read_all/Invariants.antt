use Rattle.std.proofs.Common.{◌≡◌, ◌<◌, ◌++◌, length, List, ℕ}
use Rattle.std.specs.Io.KnownBytes.{Consumes}
use Rattle.ccr_check.proofs.input.read_all.Given as goal

abbrev pub invariant-loop : goal.invariant-loop
invariant-loop g l = record { room : 0 < length l.chunk; taken : (bytes : List ℕ) × (l.out.items ≡ l.fn.out.items ++ bytes) × Consumes (g.R.Read.remaining l.fn.reader) (g.R.Read.remaining l.reader) bytes }
