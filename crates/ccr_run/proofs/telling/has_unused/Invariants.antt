use Rattle.std.proofs.Common.{◌≡◌, drop}
use Rattle.std.specs.List.{list_any}
use Rattle.ccr_findings.specs.Findings.{kinds}
use Rattle.ccr_run.specs.Explained.{is_unused}
use Rattle.ccr_run.proofs.telling.has_unused.Given as goal

abbrev pub invariant-loop-finding : goal.invariant-loop-finding
invariant-loop-finding l =
    list_any is_unused (kinds l.findings) ≡ list_any is_unused (kinds (drop l.finding-index l.findings))
