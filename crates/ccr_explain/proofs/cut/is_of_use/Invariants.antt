use Rattle.std.proofs.Common.{◌≡◌, drop}
use Rattle.std.specs.List.{list_all}
use Rattle.ccr_explain.specs.Cut.{has_place_of}
use Rattle.ccr_explain.proofs.cut.is_of_use.Given as goal

abbrev pub invariant-loop-input : goal.invariant-loop-input
invariant-loop-input l =
    list_all (λ x. has_place_of x.now l.pairs) (drop l.input-index l.naming) ≡ list_all (λ x. has_place_of x.now l.pairs) l.naming
