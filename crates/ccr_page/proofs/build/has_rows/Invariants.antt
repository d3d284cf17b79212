use Rattle.std.proofs.Common.{◌≡◌, drop}
use Rattle.ccr_page.specs.Builds.{has_rows}
use Rattle.ccr_page.proofs.build.has_rows.Given as goal

abbrev pub invariant-loop-job : goal.invariant-loop-job
invariant-loop-job l = has_rows (drop l.job-index l.jobs) ≡ has_rows l.jobs
