use Rattle.std.proofs.Common.{◌≡◌, not, find, drop}
use Rattle.ccr_lines.specs.Reasons.{has_moved, first_unmoved}
use Rattle.ccr_lines.proofs.reason.first_unmoved.Given as goal

abbrev pub invariant-loop-job : goal.invariant-loop-job
invariant-loop-job l =
    find (λ j. not (has_moved l.index.problem l.input l.place j)) (drop l.job-index l.job-items)
    ≡ first_unmoved l.index.problem l.input l.place
