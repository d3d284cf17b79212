use Rattle.std.proofs.Common.{◌≡◌, ℕ, ◌<◌, slice_index_or}
use Rattle.std.specs.Prelude.{Contains}
use Rattle.ccr_choice.specs.Dominated.{IsNamedIn}
use Rattle.ccr_resolve.proofs.dominator.are_covered.Given as goal

abbrev pub invariant-loop-scope : goal.invariant-loop-scope
invariant-loop-scope l = (k : ℕ) (q : ℕ × ℕ) → k < l.scope-index → slice_index_or l.pairs k q ≡ q → IsNamedIn l.index.problem l.job q.0 → Contains l.others q
