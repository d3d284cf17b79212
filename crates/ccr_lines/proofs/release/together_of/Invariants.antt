use Rattle.std.proofs.Common.{◌≡◌, map, take, flat_map}
use Rattle.ccr_pipeline.specs.Inputs.{input_data}
use Rattle.ccr_pipeline.specs.JobData.{job_data}
use Rattle.ccr_lines.specs.Releases.{pairs_naming, together_data, together}
use Rattle.ccr_lines.proofs.release.together_of.Given as goal

abbrev pub invariant-loop-job : goal.invariant-loop-job
invariant-loop-job l =
    map together_data l.found.items
    ≡ flat_map (λ j. together (job_data j).name
    (pairs_naming (job_data j).name (map input_data l.inputs) l.build.used) (take l.before l.history.builds))
    (take l.job-index l.jobs)
