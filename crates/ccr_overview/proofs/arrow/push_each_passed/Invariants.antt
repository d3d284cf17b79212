use Rattle.std.proofs.Common.{◌≡◌, ◌++◌, drop, map}
use Rattle.ccr_overview.specs.Arrows.{passed_arrow}
use Rattle.ccr_overview.specs.Each.{each_from}
use Rattle.ccr_pipeline.specs.Inputs.{input_data}
use Rattle.ccr_pipeline.specs.JobData.{job_data}
use Rattle.ccr_overview.proofs.arrow.push_each_passed.Given as goal

abbrev pub invariant-loop-n : goal.invariant-loop-n
invariant-loop-n l =
    l.out.items ++ each_from (passed_arrow l.count l.end.job l.end.port (input_data l.input) l.name l.is_held) l.n (map job_data (drop l.n l.jobs)) ≡ l.fn.out.items ++ each_from (passed_arrow l.count l.end.job l.end.port (input_data l.input) l.name l.is_held) 0 (map job_data l.jobs)
