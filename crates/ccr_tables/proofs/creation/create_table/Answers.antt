use Rattle.std.proofs.Common.{IfOk, subst}
use Rattle.sqlite.specs.Held.{state}
use Rattle.ccr_tables.specs.Step.{Creates}
use Rattle.ccr_tables.specs.Tables.{schema_before, schema_with}
use Rattle.ccr_tables.proofs.Creations.{creates_table, no_second_meta}
use Rattle.ccr_tables.proofs.Founding.{creates_fails, creates_made}
use Rattle.std.proofs.lemmas.Result.{err_from_is_err_and}
use Rattle.ccr_tables.proofs.creation.create_table.Goals as goal

pub returns-in_err-execute-clause-step : goal.returns-in_err-execute-clause-step
returns-in_err-execute-clause-step g c clean inside =
    let t = c.args.table in
    let old = state g.S.Store c.args.tx.now.conn.now in
    let new = state g.S.Store c.execute.new.self.conn.now in
    let r = err_from_is_err_and c.from_residual.result c.from_residual.ensures.1 in
    creates_fails (schema_before t) (schema_with t) (schema_with t) old new _ r.0 c.from_residual.result r.1
    (subst (Creates (schema_before t) (schema_with t) old new) c.in_err-execute.was (creates_table t old new c.execute.result (rw (c.creation.ensures) at (c.execute.ensures.runs clean inside))))

pub returns-clause-step : goal.returns-clause-step
returns-clause-step g c clean inside =
    let t = c.args.table in
    let old = state g.S.Store c.args.tx.now.conn.now in
    let new = state g.S.Store c.execute.new.self.conn.now in
    creates_made (schema_before t) (schema_with t) old new _ c.execute.result c.in_ok-execute.was (creates_table t old new c.execute.result (rw (c.creation.ensures) at (c.execute.ensures.runs clean inside)))

pub returns-clause-taken : goal.returns-clause-taken
returns-clause-taken g c clean inside has first =
    let old = state g.S.Store c.args.tx.now.conn.now in
    let new = state g.S.Store c.execute.new.self.conn.now in
    subst (λ r. IfOk r (λ _. ⊥)) c.in_ok-execute.was (no_second_meta old new c.execute.result has (rw (c.creation.ensures, first) at (c.execute.ensures.runs clean inside)))
