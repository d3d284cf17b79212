use Rattle.std.proofs.Common.{◌≡◌, map}
use Rattle.ccr_history.specs.Pins.{pins_of}
use Rattle.ccr_store.specs.Rows.{pin_row}
use Rattle.ccr_store.proofs.matching.are_pins.Given as goal

abbrev pub invariant-loop-resource : goal.invariant-loop-resource
invariant-loop-resource l = record {
  left : l.rest ≡ map pin_row (pins_of l.resource-iterator) → l.rows ≡ map pin_row l.pins;
  so_far : l.rows ≡ map pin_row l.pins → l.rest ≡ map pin_row (pins_of l.resource-iterator);
}
