use Rattle.std.proofs.Common.{arith, pos, [], ◌∷◌, inr, refl}
use Rattle.sqlite.specs.declared.types.Value.TheVariants.{Int, Blob}
use Rattle.std.proofs.lemmas.Result.{err_from_is_err_and}
use Rattle.sqlite.specs.State.{HasCleanDisk}
use Rattle.sqlite.specs.Held.{state}
use Rattle.ccr_tables.specs.Schema.{meta_schema, our_schema}
use Rattle.ccr_tables.proofs.InTurn.{survives_both}
use Rattle.ccr_tables.proofs.Founding.{founds_then, founds_fails, founds_stops}
use Rattle.ccr_tables.specs.Answered.{put_meta_text}
use Rattle.ccr_tables.specs.Created.{FailedAtFirst}
use Rattle.ccr_tables.proofs.InTurn.{on_failed}
use Rattle.ccr_tables.proofs.Created.{failed_first}
use Rattle.ccr_tables.proofs.creation.create_all.Goals as goal

pub returns-in_err-create_tables-clause-step : goal.returns-in_err-create_tables-clause-step
returns-in_err-create_tables-clause-step g c clean inside =
    let s0 = state g.S.Store c.args.tx.now.conn.now in
    let s1 = state g.S.Store c.create_tables.new.tx.conn.now in
    let r = err_from_is_err_and c.from_residual.result c.from_residual.ensures.1 in
    founds_fails meta_schema our_schema s0 s1 _ r.0 c.from_residual.result r.1 (c.in_err-create_tables.ensures.step clean inside)

pub returns-in_err-write_one-clause-step : goal.returns-in_err-write_one-clause-step
returns-in_err-write_one-clause-step g c clean inside =
    let s0 = state g.S.Store c.args.tx.now.conn.now in
    let s1 = state g.S.Store c.create_tables.new.tx.conn.now in
    let s2 = state g.S.Store c.write_one.new.tx.conn.now in
    let clean1 : HasCleanDisk s1 = omega (arith, c.write_one.ensures.survives.clean) in
    let t1 = c.in_ok-create_tables.ensures.step clean1 inside in
    let t2 = founds_then meta_schema s0 s1 s2 _ _ t1 (c.in_err-write_one.ensures.step clean t1.made.0) in
    let r = err_from_is_err_and c.from_residual-in_err-write_one.result c.from_residual-in_err-write_one.ensures.1 in
    founds_stops meta_schema s0 s2 _ r.0 c.from_residual-in_err-write_one.result r.1 t2

pub returns-in_err-write_one-clause-survives : goal.returns-in_err-write_one-clause-survives
returns-in_err-write_one-clause-survives g c =
    let s0 = state g.S.Store c.args.tx.now.conn.now in
    let s1 = state g.S.Store c.create_tables.new.tx.conn.now in
    survives_both s0 s1 (state g.S.Store c.write_one.new.tx.conn.now) c.create_tables.ensures.survives c.write_one.ensures.survives

pub returns-clause-step : goal.returns-clause-step
returns-clause-step g c clean inside =
    let s0 = state g.S.Store c.args.tx.now.conn.now in
    let s1 = state g.S.Store c.create_tables.new.tx.conn.now in
    let s2 = state g.S.Store c.write_one.new.tx.conn.now in
    let clean1 : HasCleanDisk s1 = omega (arith, c.write_one.ensures.survives.clean) in
    let t1 = c.in_ok-create_tables.ensures.step clean1 inside in
    let t2 = founds_then meta_schema s0 s1 s2 _ _ t1 (c.in_ok-write_one.ensures.step clean t1.made.0) in
    record { kept = t2.kept; made = t2.made; sound = t2.sound }

pub returns-clause-survives : goal.returns-clause-survives
returns-clause-survives g c =
    let s0 = state g.S.Store c.args.tx.now.conn.now in
    let s1 = state g.S.Store c.create_tables.new.tx.conn.now in
    survives_both s0 s1 (state g.S.Store c.write_one.new.tx.conn.now) c.create_tables.ensures.survives c.write_one.ensures.survives

pub returns-in_err-create_tables-clause-answered : goal.returns-in_err-create_tables-clause-answered
returns-in_err-create_tables-clause-answered g c clean inside =
    on_failed c.from_residual.result _ (FailedAtFirst g.S.Store (state g.S.Store c.args.tx.now.conn.now)) c.from_residual.ensures.1 (c.in_err-create_tables.ensures.answered clean inside)

pub returns-in_err-write_one-clause-answered : goal.returns-in_err-write_one-clause-answered
returns-in_err-write_one-clause-answered g c clean inside =
    let s0 = state g.S.Store c.args.tx.now.conn.now in
    let s1 = state g.S.Store c.create_tables.new.tx.conn.now in
    let clean1 : HasCleanDisk s1 = omega (arith, c.write_one.ensures.survives.clean) in
    let t1 = c.in_ok-create_tables.ensures.step clean1 inside in
    failed_first g.S.Store s0 c.create_tables.new.tx.conn.now c.write_one.new.tx.conn.now put_meta_text (Int (pos 1) ∷ Blob (50 ∷ []) ∷ []) _ c.from_residual-in_err-write_one.result (inr (refl, refl)) c.create_tables.ensures.survives
    (c.in_err-write_one.ensures.answered clean t1.made.0) c.from_residual-in_err-write_one.ensures.1
