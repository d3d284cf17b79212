use Rattle.std.proofs.Common.{◌≡◌, ◌+◌, drop, map}
use Rattle.ccr_core.specs.Holding.{name_data, name_index}
use Rattle.ccr_core.proofs.wanted.index_of.Given as goal

abbrev pub invariant-loop-i : goal.invariant-loop-i
invariant-loop-i l = l.i + name_index l.job l.number (map name_data (drop l.i l.names)) ≡ name_index l.job l.number (map name_data l.names)
