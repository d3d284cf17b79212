use Rattle.std.proofs.Common.{take, ◌+◌, ◌∙◌, sym, subst, List, IsTrue}
use Rattle.ccr_history.specs.Tables.{TableData}
use Rattle.ccr_history.specs.History.{has_place}
use Rattle.ccr_store.proofs.ReadRows.{handed_on}
use Rattle.ccr_store.proofs.ReadDisabled.{disabled_read, disabled_set}
use Rattle.ccr_store.proofs.disabled.disable_all.Goals as goal

pub returns-in_err-disable-clause-read : goal.returns-in_err-disable-clause-read
returns-in_err-disable-clause-read c ps rules none same =
    let it = disabled_read c.args.history.now.tables ps c.args.rows.now c.loop-row.row-index c.row-item.result rules same c.loop-row-test.true c.row-item.is in
    let place = subst (λ (ts : List TableData). IsTrue (has_place ts it.0.0 it.0.1)) (sym c.loop-row.invariant.kept.0) it.1 in
    handed_on _ c.from_residual.result _ c.from_residual.ensures.1 (c.in_err-disable.ensures.read it.0 place it.2)

pub loop-row-preserved : goal.loop-row-preserved
loop-row-preserved c = record {
  read = λ ps rules none same.
      let i = c.loop-row.row-index in
      let it = disabled_read c.args.history.now.tables ps c.args.rows.now i c.row-item.result rules same c.loop-row-test.true c.row-item.is in
      let place = subst (λ (ts : List TableData). IsTrue (has_place ts it.0.0 it.0.1)) (sym c.loop-row.invariant.kept.0) it.1 in
      disabled_set c.args.history.now c.loop-row.history c.disable.new.history it.0 (take i ps) (take (i + 1) ps) (c.loop-row.invariant.read ps rules none same) (c.in_ok-disable.ensures.read it.0 place it.2) it.3;
  kept = (c.in_ok-disable.ensures.kept.0 ∙ c.loop-row.invariant.kept.0, c.in_ok-disable.ensures.kept.1 ∙ c.loop-row.invariant.kept.1);
}
