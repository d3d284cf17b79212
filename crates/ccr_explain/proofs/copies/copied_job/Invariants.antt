use Rattle.std.proofs.Common.{◌≡◌, take}
use Rattle.ccr_explain.proofs.copies.copied_job.Given as goal

abbrev pub invariant-loop-k : goal.invariant-loop-k
invariant-loop-k l = l.copies.items ≡ take l.k l.rows.builds
