use Rattle.std.proofs.Common.{◌≡◌, drop, map}
use Rattle.ccr_pipeline.specs.Tree.{tree_of, trees_of}
use Rattle.ccr_findings.specs.Absent.{given_data, given_by_all}
use Rattle.ccr_findings.proofs.absent.+given.Given as goal

abbrev pub invariant-give_each-loop-step : goal.invariant-give_each-loop-step
invariant-give_each-loop-step l = given_by_all (given_data l.given) (trees_of (map tree_of (drop l.step-index l.step-items))) ≡ given_by_all (given_data l.initial.given) (trees_of (map tree_of l.step-items))
