use Rattle.std.proofs.Common.{◌≡◌, ◌++◌, drop, map}
use Rattle.ccr_pipeline.specs.Tree.{tree_of, trees_of}
use Rattle.ccr_findings.specs.Absent.{given_data, given_by_all, absent_in_all}
use Rattle.ccr_findings.specs.Findings.{findings_data}
use Rattle.ccr_findings.proofs.absent.+absent.Given as goal

abbrev pub invariant-find_each-loop-step : goal.invariant-find_each-loop-step
invariant-find_each-loop-step l = record {
  found : findings_data l.out.items ++ absent_in_all l.job (given_data l.given) (trees_of (map tree_of (drop l.step-index l.step-items))) ≡ findings_data l.initial.out.items ++ absent_in_all l.job (given_data l.initial.given) (trees_of (map tree_of l.step-items));
  given : given_by_all (given_data l.given) (trees_of (map tree_of (drop l.step-index l.step-items))) ≡ given_by_all (given_data l.initial.given) (trees_of (map tree_of l.step-items));
}
