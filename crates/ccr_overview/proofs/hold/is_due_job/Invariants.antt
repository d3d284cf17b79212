use Rattle.std.proofs.Common.{◌≡◌, drop, map}
use Rattle.ccr_overview.specs.Holds.{is_due_job}
use Rattle.ccr_overview.specs.Scenes.{told_data}
use Rattle.ccr_overview.proofs.hold.is_due_job.Given as goal

abbrev pub invariant-loop-it : goal.invariant-loop-it
invariant-loop-it l =
    is_due_job (map told_data (drop l.it-index l.told)) l.name ≡ is_due_job (map told_data l.told) l.name
