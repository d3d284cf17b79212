use Rattle.std.proofs.Common.{◌≡◌, ℕ, List, map, take, string_bytes}
use Rattle.ccr_problem.specs.Passed.{job_value}
use Rattle.ccr_lines.proofs.past.builds_before.Given as goal

abbrev pub invariant-loop-k : goal.invariant-loop-k
invariant-loop-k l =
    (scopes : List ℕ) → l.jobs ≡ map (job_value l.history.builds scopes) (map string_bytes l.names)
    → l.builds.items ≡ map (job_value (take l.before l.history.builds) scopes) (map string_bytes (take l.k l.names))
