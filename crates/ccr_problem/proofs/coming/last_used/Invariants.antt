use Rattle.std.proofs.Common.{◌≡◌, take}
use Rattle.ccr_history.specs.Newest.{last_given, place_if_at}
use Rattle.ccr_problem.proofs.coming.last_used.Given as goal

abbrev pub invariant-loop-one : goal.invariant-loop-one
invariant-loop-one l = l.place ≡ last_given (place_if_at l.input l.scope) (take l.one-index l.used)
