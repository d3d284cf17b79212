use Rattle.std.proofs.Common.{◌≡◌, find, drop}
use Rattle.ccr_lines.specs.Witnesses.{passed_together}
use Rattle.ccr_lines.proofs.witness.first_together.Given as goal

abbrev pub invariant-loop-build : goal.invariant-loop-build
invariant-loop-build l =
    find (passed_together l.job l.inputs l.places) (drop l.build-index l.builds)
    ≡ find (passed_together l.job l.inputs l.places) l.builds
