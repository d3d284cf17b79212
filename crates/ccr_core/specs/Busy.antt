-- When a job is busy.
use Rattle.std.specs.Prelude.{ℕ, Bool, false, not, ◌&&◌, ◌||◌, List, count_by}
use Rattle.std.specs.List.{list_any}
use Rattle.std.specs.Option.{option_map_or}
use Rattle.std.specs.Str.{bytes_eq}
use Rattle.ccr_history.specs.Text.{Text}
use Rattle.ccr_pipeline.specs.JobData.{JobData}
use Rattle.ccr_pipeline.specs.Names.{has_name}
use Rattle.ccr_problem.specs.ProblemOf.{job_of}
use Rattle.ccr_problem.specs.Limit.{limit_of, has_reached}
use Rattle.ccr_core.specs.State.{RunningData}

-- how many builds of a job run
abbrev pub running_of : Text → List RunningData → ℕ
running_of job running = count_by (λ b. bytes_eq job b.job) running

-- two jobs share a serial group
abbrev pub share : JobData → JobData → Bool
share j k = list_any (has_name k.serial_groups) j.serial_groups

-- a build of another job runs, one that shares a serial group with this job
abbrev pub is_shut_out : List JobData → JobData → List RunningData → Bool
is_shut_out jobs j running =
    list_any (λ b. not (bytes_eq j.name b.job) && option_map_or (share j) (job_of b.job jobs) false) running

-- a job is busy if as many of its builds run as may, or if a build of another job runs that shares a serial group with
-- it
abbrev pub is_busy : List JobData → JobData → List RunningData → Bool
is_busy jobs j running = has_reached (limit_of j) (running_of j.name running) || is_shut_out jobs j running
