use Rattle.std.proofs.Common.{◌+◌, ◌≤◌, take}
use Rattle.std.specs.Prelude.{All}
use Rattle.ccr_layout.proofs.draw.bottom_of.Given as goal

abbrev pub invariant-loop-frame : goal.invariant-loop-frame
invariant-loop-frame l = record {
  low : l.bottom ≤ 10301010;
  boxes : All (λ b. b.top + b.height ≤ l.bottom) (take l.frame-index l.boxes);
}

abbrev pub invariant-loop-slot : goal.invariant-loop-slot
invariant-loop-slot l = record {
  low : l.bottom ≤ 10301010;
  boxes : All (λ b. b.top + b.height ≤ l.bottom) l.boxes;
  slots : All (λ s. s.top ≤ l.bottom) (take l.slot-index l.slots);
}
