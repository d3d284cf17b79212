use Rattle.std.proofs.Common.{take, ◌+◌, ◌∙◌}
use Rattle.ccr_store.proofs.ReadRows.{handed_on, pin_read, pins_set}
use Rattle.ccr_store.proofs.reading.add_pins.Goals as goal

pub returns-in_err-add_pin-clause-read : goal.returns-in_err-add_pin-clause-read
returns-in_err-add_pin-clause-read c ps rules texts none same =
    let it = pin_read ps c.args.pins.now c.loop-row.row-index c.row-item.result rules texts same c.loop-row-test.true c.row-item.is in
    handed_on _ c.from_residual.result _ c.from_residual.ensures.1 (c.in_err-add_pin.ensures.read it.0 it.1 it.2)

pub loop-row-preserved : goal.loop-row-preserved
loop-row-preserved c = record {
  read = λ ps rules texts none same.
      let i = c.loop-row.row-index in
      let it = pin_read ps c.args.pins.now i c.row-item.result rules texts same c.loop-row-test.true c.row-item.is in
      pins_set c.args.history.now c.add_pin.new.history c.loop-row.history it.0 (take i ps) (take (i + 1) ps) (c.loop-row.invariant.read ps rules texts none same) (c.in_ok-add_pin.ensures.read it.0 it.1 it.2) it.3;
  kept = (c.in_ok-add_pin.ensures.kept.0 ∙ c.loop-row.invariant.kept.0, c.in_ok-add_pin.ensures.kept.1 ∙ c.loop-row.invariant.kept.1);
}
