use Rattle.std.proofs.Common.{ℕ, ◌<◌}
use Rattle.std.specs.Prelude.{Contains}
use Rattle.ccr_choice.specs.Problem.{input_at}
use Rattle.ccr_choice.specs.Possible.{IsPossible}
use Rattle.ccr_choice.specs.Table.{assigned}
use Rattle.ccr_index.proofs.index.Index.leaves_places.Given as goal

abbrev pub invariant-loop-i : goal.invariant-loop-i
invariant-loop-i l = (k : ℕ) → k < l.i → Contains (input_at l.self.problem k).jobs l.job → (place : ℕ) × IsPossible l.self.problem (assigned l.self.problem l.fixed) k place
