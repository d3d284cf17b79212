use Rattle.std.proofs.Common.{◌≡◌, map, take}
use Rattle.std.specs.Prelude.{All, filter}
use Rattle.ccr_choice.specs.Ascending.{AreRising}
use Rattle.ccr_explain.specs.Cut.{names}
use Rattle.ccr_explain.proofs.cut.inputs_naming.Given as goal

abbrev pub invariant-loop-input : goal.invariant-loop-input
invariant-loop-input l =
    (map (λ x. x.now) l.naming.items ≡ filter (names l.job) (take l.input-index l.inputs)) × All (λ x. AreRising x.now.places) l.naming.items
