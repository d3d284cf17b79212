use Rattle.std.proofs.Common.{◌≡◌, ◌+◌, ◌++◌, drop}
use Rattle.ccr_problem.specs.Allowed.{meets_all, places_from}
use Rattle.ccr_problem.proofs.Places.{passing}
use Rattle.ccr_problem.proofs.allowed.places_from.Given as goal

abbrev pub invariant-loop-before : goal.invariant-loop-before
invariant-loop-before l = l.places.items ++ passing (meets_all l.pins) (l.first + l.before) (drop l.before l.versions) ≡ places_from l.first l.pins l.versions
