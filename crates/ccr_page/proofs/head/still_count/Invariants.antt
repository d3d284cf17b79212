use Rattle.std.proofs.Common.{◌≡◌, ◌+◌, ◌≤◌, drop}
use Rattle.ccr_page.specs.Heads.{still_count}
use Rattle.ccr_page.proofs.head.still_count.Given as goal

abbrev pub invariant-loop-job : goal.invariant-loop-job
invariant-loop-job l = record { rest : l.count + still_count (drop l.job-index l.jobs) ≡ still_count l.jobs; few : l.count ≤ l.job-index }
