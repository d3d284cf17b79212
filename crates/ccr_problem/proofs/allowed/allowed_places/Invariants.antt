use Rattle.std.proofs.Common.{◌≡◌, ◌+◌, ◌++◌, not, drop}
use Rattle.std.specs.Prelude.{filter}
use Rattle.ccr_problem.specs.Allowed.{meets_all, allowed_places}
use Rattle.ccr_problem.specs.ProblemOf.{is_disabled_at}
use Rattle.ccr_problem.proofs.Places.{passing}
use Rattle.ccr_problem.proofs.allowed.allowed_places.Given as goal

abbrev pub invariant-loop-before : goal.invariant-loop-before
invariant-loop-before l =
    l.places.items ++ filter (λ n. not (is_disabled_at l.history l.scope n)) (passing (meets_all l.pins) (l.before + 1) (drop l.before l.versions))
    ≡ allowed_places l.pins (is_disabled_at l.history l.scope) l.versions
