use Rattle.std.proofs.Common.{◌≡◌, drop}
use Rattle.std.specs.List.{list_any}
use Rattle.ccr_findings.specs.Findings.{kinds}
use Rattle.ccr_run.specs.Explained.{is_corrected}
use Rattle.ccr_run.proofs.telling.has_corrected.Given as goal

abbrev pub invariant-loop-finding : goal.invariant-loop-finding
invariant-loop-finding l =
    list_any is_corrected (kinds l.findings) ≡ list_any is_corrected (kinds (drop l.finding-index l.findings))
