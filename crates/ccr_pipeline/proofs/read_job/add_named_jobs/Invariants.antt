use Rattle.std.proofs.Common.{◌≡◌, drop, map}
use Rattle.ccr_pipeline.specs.Inputs.{input_data, named_jobs}
use Rattle.ccr_pipeline.proofs.read_job.add_named_jobs.Given as goal

abbrev pub invariant-loop-input : goal.invariant-loop-input
invariant-loop-input l = named_jobs l.jobs (map input_data (drop l.input-index l.inputs)) ≡ named_jobs l.initial.jobs (map input_data l.inputs)
