use Rattle.std.proofs.Common.{◌≡◌, drop, map, find, string_bytes}
use Rattle.ccr_lines.specs.Stops.{is_unpassed}
use Rattle.ccr_lines.proofs.stop.first_unpassed.Given as goal

abbrev pub invariant-loop-job : goal.invariant-loop-job
invariant-loop-job l =
    find (is_unpassed l.history l.pair) (map string_bytes (drop l.job-index l.jobs))
    ≡ find (is_unpassed l.history l.pair) (map string_bytes l.jobs)
