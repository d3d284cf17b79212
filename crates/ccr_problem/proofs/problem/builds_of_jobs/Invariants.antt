use Rattle.std.proofs.Common.{◌≡◌, ◌++◌, map, drop, string_bytes}
use Rattle.ccr_problem.specs.Passed.{job_value}
use Rattle.ccr_problem.proofs.problem.builds_of_jobs.Given as goal

abbrev pub invariant-loop-name : goal.invariant-loop-name
invariant-loop-name l =
    l.jobs.items ++ map (job_value l.history.builds l.scopes) (map string_bytes (drop l.name-index l.names))
    ≡ map (job_value l.history.builds l.scopes) (map string_bytes l.names)
