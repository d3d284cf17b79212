use Rattle.std.proofs.Common.{◌≡◌, List, ℕ, [], take, map}
use Rattle.std.specs.List.{AllByRecursion}
use Rattle.ccr_history.specs.TextMap.{TextMap}
use Rattle.ccr_history.specs.History.{ArePins}
use Rattle.ccr_store.specs.Listed.{KeepsSeen}
use Rattle.ccr_store.specs.Rows.{pin_row}
use Rattle.ccr_store.specs.Texts.{IsTextPin}
use Rattle.ccr_store.proofs.reading.add_pins.Given as goal

abbrev pub invariant-loop-row : goal.invariant-loop-row
invariant-loop-row l = record {
  read : (ps : List (List ℕ × TextMap)) → ArePins ps → AllByRecursion IsTextPin ps → l.fn.history.pins ≡ [] → l.pins ≡ map pin_row ps → l.history ≡ record l.fn.history { pins = take l.row-index ps };
  kept : KeepsSeen l.fn.history l.history;
}
