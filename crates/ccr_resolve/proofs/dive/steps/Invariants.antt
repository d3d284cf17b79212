use Rattle.std.proofs.Common.{◌<◌, length}
use Rattle.std.specs.Prelude.{All}
use Rattle.ccr_choice.specs.Problem.{builds_at}
use Rattle.ccr_resolve.proofs.dive.steps.Given as goal

abbrev pub invariant-loop-k : goal.invariant-loop-k
invariant-loop-k l = All (λ s. s.build < length (builds_at l.index.problem l.job)) l.steps.items
