use Rattle.std.proofs.Common.{◌∙◌, sym, arith}
use Rattle.std.proofs.lemmas.Option.{slice_get-get_or}
use Rattle.std.proofs.lemmas.Result.{err_from_is_err_and}
use Rattle.sqlite.specs.State.{HasCleanDisk}
use Rattle.sqlite.specs.Held.{state}
use Rattle.ccr_tables.specs.Created.{FailedAtFirst}
use Rattle.ccr_tables.proofs.Created.{table_failed}
use Rattle.ccr_tables.proofs.Founding.{creates_next, creates_stops}
use Rattle.ccr_tables.proofs.InTurn.{survives_both, on_failed}
use Rattle.ccr_tables.proofs.creation.create_tables.Goals as goal

pub loop-table-preserved : goal.loop-table-preserved
loop-table-preserved g c =
    let old = state g.S.Store c.args.tx.now.conn.now in
    let mid = state g.S.Store c.loop-table.tx.conn.now in
    let new = state g.S.Store c.create_table.new.tx.conn.now in
    let so_far = c.loop-table.invariant in
    record {
      same_reference = c.create_table.ensures.same_reference ∙ so_far.same_reference;
      survives = survives_both old mid new so_far.survives c.create_table.ensures.survives;
      steps = λ clean inside.
          let early : HasCleanDisk mid = omega (arith, c.create_table.ensures.survives.clean) in
          let before = so_far.steps early inside in
          creates_next c.args.tables.now c.loop-table.table-index _ c.loop-table-test.true (slice_get-get_or c.args.tables.now c.loop-table.table-index _ c.loop-table-test.true) c.requires old mid new before
          (c.in_ok-create_table.ensures.step clean before.made.0);
    }

pub returns-in_err-create_table-clause-step : goal.returns-in_err-create_table-clause-step
returns-in_err-create_table-clause-step g c clean inside =
    let old = state g.S.Store c.args.tx.now.conn.now in
    let mid = state g.S.Store c.loop-table.tx.conn.now in
    let new = state g.S.Store c.create_table.new.tx.conn.now in
    let early : HasCleanDisk mid = omega (arith, c.create_table.ensures.survives.clean) in
    let before = c.loop-table.invariant.steps early inside in
    let r = err_from_is_err_and c.from_residual.result c.from_residual.ensures.1 in
    creates_stops _ old mid new _ r.0 c.from_residual.result r.1 before (c.in_err-create_table.ensures.step clean before.made.0)

pub returns-in_err-create_table-clause-answered : goal.returns-in_err-create_table-clause-answered
returns-in_err-create_table-clause-answered g c clean inside =
    let old = state g.S.Store c.args.tx.now.conn.now in
    let mid = state g.S.Store c.loop-table.tx.conn.now in
    let early : HasCleanDisk mid = omega (arith, c.create_table.ensures.survives.clean) in
    let before = c.loop-table.invariant.steps early inside in
    on_failed c.from_residual.result _ (FailedAtFirst g.S.Store old) c.from_residual.ensures.1
    (table_failed g.S.Store old c.loop-table.tx.conn.now c.create_table.new.tx.conn.now _ _ c.loop-table.invariant.survives (c.in_err-create_table.ensures.answered clean before.made.0))
