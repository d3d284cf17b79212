use Rattle.std.proofs.Common.{◌≡◌, drop, map, reverse}
use Rattle.std.specs.Prelude.{filter}
use Rattle.ccr_history.specs.Builds.{is_of, is_succeeded}
use Rattle.ccr_problem.specs.Passed.{build_value}
use Rattle.ccr_problem.proofs.passed.job_builds.Given as goal

abbrev pub invariant-loop-k : goal.invariant-loop-k
invariant-loop-k l =
    l.builds.items ≡ map (build_value l.scopes) (reverse (filter (λ b. is_succeeded b.status) (drop l.k (filter (is_of l.job) l.history.builds))))
