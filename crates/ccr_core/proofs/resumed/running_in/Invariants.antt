use Rattle.std.proofs.Common.{◌≡◌, ◌++◌, map, drop}
use Rattle.ccr_core.specs.Holding.{name_data}
use Rattle.ccr_core.specs.Resumed.{running_in}
use Rattle.ccr_core.proofs.resumed.running_in.Given as goal

abbrev pub invariant-loop-position : goal.invariant-loop-position
invariant-loop-position l =
    map name_data l.names.items ++ running_in (drop l.position l.history.builds) ≡ running_in l.history.builds
