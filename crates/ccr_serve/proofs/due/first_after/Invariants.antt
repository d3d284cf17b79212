use Rattle.std.proofs.Common.{◌≡◌, drop, find, map, nat_lt}
use Rattle.ccr_core.specs.Cores.{core_data}
use Rattle.ccr_core.specs.Holding.{name_data}
use Rattle.ccr_serve.specs.Turns.{rank_of}
use Rattle.ccr_serve.proofs.due.first_after.Given as goal

abbrev pub invariant-loop-name : goal.invariant-loop-name
invariant-loop-name l =
    find (λ n. nat_lt l.last (rank_of n.0 n.1 (core_data l.core).history.builds)) (map name_data (drop l.name-index l.names))
    ≡ find (λ n. nat_lt l.last (rank_of n.0 n.1 (core_data l.core).history.builds)) (map name_data l.names)
