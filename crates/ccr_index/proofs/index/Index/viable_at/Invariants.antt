use Rattle.std.proofs.Common.{◌≤◌, take}
use Rattle.ccr_choice.specs.Problem.{builds_at}
use Rattle.ccr_choice.specs.Assignment.{with_build}
use Rattle.ccr_choice.specs.Table.{assigned}
use Rattle.ccr_index.specs.Index.{IsCount, LeavesPlaces}
use Rattle.ccr_index.proofs.index.Index.viable_at.Given as goal

abbrev pub invariant-loop-build : goal.invariant-loop-build
invariant-loop-build l =
    IsCount (λ b. LeavesPlaces l.self.problem (with_build (assigned l.self.problem l.fixed) l.job b) l.job) (take l.build (builds_at l.self.problem l.job)) l.count
    × (l.count ≤ l.build)
