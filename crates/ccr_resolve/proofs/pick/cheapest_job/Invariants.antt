use Rattle.std.proofs.Common.{◌≡◌, ◌<◌, length, slice_index}
use Rattle.ccr_resolve.proofs.pick.cheapest_job.Given as goal

abbrev pub invariant-loop-j : goal.invariant-loop-j
invariant-loop-j l = (l.cheapest < length l.index.problem.jobs) × (slice_index l.fixed l.cheapest ≡ 0)
