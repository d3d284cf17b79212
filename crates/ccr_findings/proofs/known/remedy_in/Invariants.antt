use Rattle.std.proofs.Common.{◌≡◌, drop}
use Rattle.ccr_findings.specs.Known.{idle_rows, remedy_in}
use Rattle.ccr_findings.proofs.known.remedy_in.Given as goal

abbrev pub invariant-loop-known : goal.invariant-loop-known
invariant-loop-known l = remedy_in (idle_rows l.rows) l.key ≡ remedy_in (idle_rows (drop l.known-index l.rows)) l.key
