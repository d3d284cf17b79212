use Rattle.std.proofs.Common.{◌≡◌, take}
use Rattle.ccr_history.proofs.builds.copy_jobs.Given as goal

abbrev pub invariant-loop-kept : goal.invariant-loop-kept
invariant-loop-kept l = l.copies.items ≡ take l.kept-index l.of_jobs
