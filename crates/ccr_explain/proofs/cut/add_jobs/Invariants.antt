use Rattle.std.proofs.Common.{◌≡◌, drop}
use Rattle.ccr_explain.specs.Cut.{with_jobs}
use Rattle.ccr_explain.proofs.cut.add_jobs.Given as goal

abbrev pub invariant-loop-job : goal.invariant-loop-job
invariant-loop-job l = with_jobs l.order.items (drop l.job-index l.jobs) ≡ with_jobs l.initial.order.items l.jobs
