use Rattle.std.proofs.Common.{◌≡◌, drop}
use Rattle.ccr_findings.specs.Undone.{last_key}
use Rattle.ccr_findings.proofs.undone.last_key.Given as goal

abbrev pub invariant-loop-i : goal.invariant-loop-i
invariant-loop-i l = last_key l.key (drop l.i l.path) ≡ last_key l.path l.path
