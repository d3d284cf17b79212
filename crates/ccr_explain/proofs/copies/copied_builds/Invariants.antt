use Rattle.std.proofs.Common.{◌≡◌, map, take}
use Rattle.ccr_explain.specs.Cut.{build_in}
use Rattle.ccr_explain.proofs.copies.copied_builds.Given as goal

abbrev pub invariant-loop-k : goal.invariant-loop-k
invariant-loop-k l = l.copies.items ≡ map (build_in l.rows.builds) (take l.k-index l.places)
