use Rattle.std.proofs.Common.{◌≡◌, ◌++◌, drop, map, option_map, string_bytes}
use Rattle.ccr_overview.specs.Arrows.{passed_arrows}
use Rattle.ccr_pipeline.specs.Inputs.{input_data}
use Rattle.ccr_pipeline.specs.JobData.{job_data}
use Rattle.ccr_overview.proofs.arrow.push_all_passed.Given as goal

abbrev pub invariant-loop-name : goal.invariant-loop-name
invariant-loop-name l =
    l.out.items ++ passed_arrows l.count l.end.job l.end.port (input_data l.input) (option_map string_bytes l.found) (map job_data l.jobs) (map string_bytes (drop l.name-index l.names)) ≡ l.fn.out.items ++ passed_arrows l.count l.end.job l.end.port (input_data l.input) (option_map string_bytes l.found) (map job_data l.jobs) (map string_bytes l.names)
