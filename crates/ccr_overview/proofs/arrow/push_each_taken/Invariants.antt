use Rattle.std.proofs.Common.{◌≡◌, ◌++◌, drop, length, map}
use Rattle.ccr_overview.specs.Arrows.{taken_arrow}
use Rattle.ccr_overview.specs.Each.{each_from}
use Rattle.ccr_pipeline.specs.Inputs.{input_data}
use Rattle.ccr_pipeline.specs.JobData.{resource_data}
use Rattle.ccr_overview.proofs.arrow.push_each_taken.Given as goal

abbrev pub invariant-loop-n : goal.invariant-loop-n
invariant-loop-n l =
    l.out.items ++ each_from (taken_arrow (length l.resources) l.end.job l.end.port (input_data l.input)) l.n (map resource_data (drop l.n l.resources)) ≡ l.fn.out.items ++ each_from (taken_arrow (length l.resources) l.end.job l.end.port (input_data l.input)) 0 (map resource_data l.resources)
