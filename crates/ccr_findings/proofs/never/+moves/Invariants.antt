use Rattle.std.proofs.Common.{◌≡◌, drop, map}
use Rattle.ccr_pipeline.specs.Tree.{tree_of, trees_of}
use Rattle.ccr_findings.specs.Objects.{moves_in}
use Rattle.ccr_findings.proofs.never.+moves.Given as goal

abbrev pub invariant-moves_in-loop-step : goal.invariant-moves_in-loop-step
invariant-moves_in-loop-step l = moves_in l.resource (trees_of (map tree_of l.step-items)) ≡ moves_in l.resource (trees_of (map tree_of (drop l.step-index l.step-items)))
