use Rattle.std.proofs.Common.{◌<◌, ◌≤◌, length, All}
use Rattle.ccr_resolve.proofs.dive.add_builds_from.Given as goal

abbrev pub invariant-loop : goal.invariant-loop
invariant-loop l = All (λ k. k < length l.rows.builds) l.builds.items × (length l.builds.items ≤ 32)
