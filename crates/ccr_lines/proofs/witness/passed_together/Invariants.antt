use Rattle.std.proofs.Common.{◌≡◌, drop}
use Rattle.ccr_lines.specs.Witnesses.{passed_together}
use Rattle.ccr_lines.proofs.witness.passed_together.Given as goal

abbrev pub invariant-loop-k : goal.invariant-loop-k
invariant-loop-k l =
    passed_together l.job (drop l.k l.inputs) (drop l.k l.places) l.build
    ≡ passed_together l.job l.inputs l.places l.build
