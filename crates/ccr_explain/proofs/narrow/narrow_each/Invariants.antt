use Rattle.std.proofs.Common.{◌≡◌, ◌<◌, length}
use Rattle.std.specs.Prelude.{All}
use Rattle.ccr_explain.specs.Cut.{IsNarrowed, IsEnough}
use Rattle.ccr_explain.proofs.narrow.narrow_each.Given as goal

abbrev pub invariant-loop : goal.invariant-loop
invariant-loop l = record {
  narrowed : IsNarrowed l.problem l.order l.initial.inputs.items l.inputs.items;
  enough : All (λ s. IsEnough l.problem l.order l.inputs.items s.0 s.1.items) l.looked.items;
  within : All (λ s. s.0 < length l.order) l.looked.items;
  done : length l.is_done.items ≡ length l.order;
}
