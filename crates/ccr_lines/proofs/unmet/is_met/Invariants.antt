use Rattle.std.proofs.Common.{◌≡◌, drop}
use Rattle.std.specs.List.{list_any}
use Rattle.ccr_history.specs.TextMap.{meets}
use Rattle.ccr_lines.proofs.unmet.is_met.Given as goal

abbrev pub invariant-loop-version : goal.invariant-loop-version
invariant-loop-version l =
    list_any (λ v. meets v l.pin) (drop l.version-index l.versions) ≡ list_any (λ v. meets v l.pin) l.versions
