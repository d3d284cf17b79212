use Rattle.std.proofs.Common.{◌≡◌, drop}
use Rattle.ccr_findings.specs.Findings.{kinds, is_faultless}
use Rattle.ccr_findings.proofs.finding.is_faultless.Given as goal

abbrev pub invariant-loop-finding : goal.invariant-loop-finding
invariant-loop-finding l =
    is_faultless l.is_strict (kinds l.findings) ≡ is_faultless l.is_strict (kinds (drop l.finding-index l.findings))
