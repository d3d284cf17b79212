use Rattle.std.proofs.Common.{◌≡◌, ◌++◌, drop}
use Rattle.ccr_explain.specs.Demand.{demands_from}
use Rattle.ccr_explain.proofs.demand.demands_of.Given as goal

abbrev pub invariant-loop-i : goal.invariant-loop-i
invariant-loop-i l = l.demands.items ++ demands_from l.i (drop l.i l.inputs) ≡ demands_from 0 l.inputs
