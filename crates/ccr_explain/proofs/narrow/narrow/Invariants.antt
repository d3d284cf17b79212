use Rattle.std.specs.Prelude.{All}
use Rattle.ccr_explain.specs.Cut.{IsNarrowed, IsEnough}
use Rattle.ccr_explain.proofs.narrow.narrow.Given as goal

abbrev pub invariant-loop-at : goal.invariant-loop-at
invariant-loop-at l = record {
  narrowed : IsNarrowed l.problem l.order l.initial.inputs.items l.inputs.items;
  enough : All (λ s. IsEnough l.problem l.order l.inputs.items s.0 s.1.items) l.looked.items;
}
