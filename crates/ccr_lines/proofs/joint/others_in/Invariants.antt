use Rattle.std.proofs.Common.{◌≡◌, take}
use Rattle.ccr_lines.specs.ClashWords.{others_in}
use Rattle.ccr_lines.proofs.joint.others_in.Given as goal

abbrev pub invariant-loop-demand : goal.invariant-loop-demand
invariant-loop-demand l = l.others.items ≡ others_in l.own (take l.demand-index l.demands)
