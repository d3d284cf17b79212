use Rattle.std.proofs.Common.{◌≡◌, ◌-◌, string_bytes}
use Rattle.ccr_pipeline.specs.Pipelines.{pipeline_data}
use Rattle.ccr_lines.specs.Stops.{stopping_job}
use Rattle.ccr_lines.proofs.stop.stopping_job.Given as goal

abbrev pub invariant-loop : goal.invariant-loop
invariant-loop l =
    stopping_job (l.most - l.counter) (pipeline_data l.pipeline) l.history l.pair (string_bytes l.stop)
    ≡ stopping_job l.most (pipeline_data l.pipeline) l.history l.pair l.job
