use Rattle.std.proofs.Common.{◌≡◌, drop}
use Rattle.ccr_run.specs.Unmet.{is_met}
use Rattle.ccr_run.proofs.unmet.is_met.Given as goal

abbrev pub invariant-loop-version : goal.invariant-loop-version
invariant-loop-version l = is_met l.pin l.versions ≡ is_met l.pin (drop l.version-index l.versions)
