use Rattle.std.proofs.Common.{◌<◌, ◌≤◌, ℕ, length, All}
use Rattle.std.specs.Prelude.{Contains}
use Rattle.ccr_resolve.specs.Sought.{HasAll, span_place}
use Rattle.ccr_resolve.proofs.wanted.add_builds_in.Given as goal

abbrev pub invariant-loop-step : goal.invariant-loop-step
invariant-loop-step l =
    All (λ k. k < length l.rows.builds) l.builds.items
    × (length l.builds.items ≤ l.most)
    × ((k : ℕ) → Contains l.initial.builds.items k → Contains l.builds.items k)
    × ((s : ℕ) → s < l.step → HasAll l.rows.builds (l.scope, span_place l.span s) l.builds.items)
