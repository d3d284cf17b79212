use Rattle.std.proofs.Common.{◌≡◌, drop, find}
use Rattle.ccr_lines.specs.Stops.{is_unpassed}
use Rattle.ccr_overview.proofs.stopping.first_unpassed.Given as goal

abbrev pub invariant-loop-job : goal.invariant-loop-job
invariant-loop-job l =
    find (λ q. is_unpassed l.history l.pair q.job) (drop l.job-index l.jobs) ≡ find (λ q. is_unpassed l.history l.pair q.job) l.jobs
