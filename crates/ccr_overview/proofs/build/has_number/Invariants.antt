use Rattle.std.proofs.Common.{◌≡◌, ◌==◌, drop}
use Rattle.std.specs.List.{list_any}
use Rattle.ccr_overview.proofs.build.has_number.Given as goal

abbrev pub invariant-loop-build : goal.invariant-loop-build
invariant-loop-build l =
    list_any (λ b. b.number == l.number) (drop l.build-index l.builds) ≡ list_any (λ b. b.number == l.number) l.builds
