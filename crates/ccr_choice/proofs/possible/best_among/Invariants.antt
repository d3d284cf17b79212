use Rattle.std.proofs.Common.{◌≡◌, ℕ, ◌<◌, slice_index_or}
use Rattle.std.specs.Prelude.{IfSome, Contains}
use Rattle.ccr_choice.specs.Problem.{BuildValue, input_at}
use Rattle.ccr_choice.specs.Preference.{order_of}
use Rattle.ccr_choice.specs.Possible.{IsPossible, Reaches}
use Rattle.ccr_choice.specs.Table.{assigned}
use Rattle.ccr_choice.proofs.possible.best_among.Given as goal

abbrev pub invariant-loop-build : goal.invariant-loop-build
invariant-loop-build l = record {
  possible : IfSome l.best (IsPossible l.problem (assigned l.problem l.fixed) l.input);
  reached : (place m : ℕ) (b : BuildValue) → m < l.build-index → slice_index_or l.builds m b ≡ b
      → Contains b.pairs ((input_at l.problem l.input).scope, place)
      → IsPossible l.problem (assigned l.problem l.fixed) l.input place → Reaches (order_of l.problem l.input) l.best place;
}
