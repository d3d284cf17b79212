use Rattle.std.proofs.Common.{arith, refl}
use Rattle.sqlite.specs.State.{HasCleanDisk}
use Rattle.sqlite.specs.Held.{state}
use Rattle.ccr_tables.proofs.InTurn.{keeps_then, survives_both}
use Rattle.ccr_tables.proofs.Founding.{not_made}
use Rattle.ccr_tables.specs.declared.table.Table.TheVariants.{Meta}
use Rattle.ccr_tables.proofs.Created.{table_failed, first_after, refusal_after, refusal_on, failed_otherwise}
use Rattle.ccr_tables.proofs.FailedReads.{survives_itself}
use Rattle.ccr_tables.proofs.creation.create_in.Goals as goal

pub returns-in-Ok-clause-kept : goal.returns-in-Ok-clause-kept
returns-in-Ok-clause-kept g c clean inside =
    let s0 = state g.S.Store c.args.tx.now.conn.now in
    let s1 = state g.S.Store c.create_table.new.tx.conn.now in
    let s2 = state g.S.Store c.create_rest.new.tx.conn.now in
    let clean1 : HasCleanDisk s1 = omega (arith, c.create_rest.ensures.survives.clean) in
    let first = c.in-Ok.ensures.step clean1 inside in
    keeps_then s0 s1 s2 first.kept (c.create_rest.ensures.kept clean first.made.0)

pub returns-in-Ok-clause-made : goal.returns-in-Ok-clause-made
returns-in-Ok-clause-made g c clean inside is =
    let s1 = state g.S.Store c.create_table.new.tx.conn.now in
    let clean1 : HasCleanDisk s1 = omega (arith, c.create_rest.ensures.survives.clean) in
    let first = c.in-Ok.ensures.step clean1 inside in
    let rest = c.create_rest.ensures.made clean first.made.0 is in
    (rest.0, λ has. rest.1 (first.made.1 (has, tt)))

pub returns-in-Ok-clause-survives : goal.returns-in-Ok-clause-survives
returns-in-Ok-clause-survives g c =
    let s0 = state g.S.Store c.args.tx.now.conn.now in
    let s1 = state g.S.Store c.create_table.new.tx.conn.now in
    survives_both s0 s1 (state g.S.Store c.create_rest.new.tx.conn.now) c.create_table.ensures.survives c.create_rest.ensures.survives

pub returns-in-Err-clause-kept : goal.returns-in-Err-clause-kept
returns-in-Err-clause-kept g c clean inside = (c.in-Err.ensures.step clean inside).kept

pub returns-in-Err-clause-made : goal.returns-in-Err-clause-made
returns-in-Err-clause-made g c clean inside is = absurd (not_made _ c.if_refused.ensures.ok is)

pub returns-in-Ok-clause-taken : goal.returns-in-Ok-clause-taken
returns-in-Ok-clause-taken g c clean inside has made =
    let clean1 : HasCleanDisk (state g.S.Store c.create_table.new.tx.conn.now) = omega (arith, c.create_rest.ensures.survives.clean) in
    c.in-Ok.ensures.taken clean1 inside has refl

pub returns-in-Err-clause-taken : goal.returns-in-Err-clause-taken
returns-in-Err-clause-taken g c clean inside has made = not_made _ c.if_refused.ensures.ok made

pub returns-in-Ok-clause-answered : goal.returns-in-Ok-clause-answered
returns-in-Ok-clause-answered g c clean inside =
    let s0 = state g.S.Store c.args.tx.now.conn.now in
    let s1 = state g.S.Store c.create_table.new.tx.conn.now in
    let clean1 : HasCleanDisk s1 = omega (arith, c.create_rest.ensures.survives.clean) in
    let first = c.in-Ok.ensures.step clean1 inside in
    first_after g.S.Store s0 s1 c.create_rest.result c.create_table.ensures.survives (c.create_rest.ensures.answered clean first.made.0)

pub returns-in-Ok-clause-refusal : goal.returns-in-Ok-clause-refusal
returns-in-Ok-clause-refusal g c clean inside =
    let s0 = state g.S.Store c.args.tx.now.conn.now in
    let s1 = state g.S.Store c.create_table.new.tx.conn.now in
    let clean1 : HasCleanDisk s1 = omega (arith, c.create_rest.ensures.survives.clean) in
    let first = c.in-Ok.ensures.step clean1 inside in
    refusal_after g.S.Store s0 s1 c.create_rest.result c.create_table.ensures.survives (c.create_rest.ensures.refusal clean first.made.0)

pub returns-in-Err-clause-answered : goal.returns-in-Err-clause-answered
returns-in-Err-clause-answered g c clean inside =
    let s0 = state g.S.Store c.args.tx.now.conn.now in
    let failed = table_failed g.S.Store s0 c.args.tx.now.conn.now c.create_table.new.tx.conn.now Meta _ (survives_itself s0) (c.in-Err.ensures.answered clean inside) in
    failed_otherwise g.S.Store s0 _ c.if_refused.result c.if_refused.ensures.same failed

pub returns-in-Err-clause-refusal : goal.returns-in-Err-clause-refusal
returns-in-Err-clause-refusal g c clean inside =
    let s0 = state g.S.Store c.args.tx.now.conn.now in
    let failed = table_failed g.S.Store s0 c.args.tx.now.conn.now c.create_table.new.tx.conn.now Meta _ (survives_itself s0) (c.in-Err.ensures.answered clean inside) in
    refusal_on g.S.Store s0 _ c.if_refused.result c.if_refused.ensures.refused failed

pub returns-in-Ok-clause-sound : goal.returns-in-Ok-clause-sound
returns-in-Ok-clause-sound g c clean inside is has =
    let s1 = state g.S.Store c.create_table.new.tx.conn.now in
    let clean1 : HasCleanDisk s1 = omega (arith, c.create_rest.ensures.survives.clean) in
    let first = c.in-Ok.ensures.step clean1 inside in
    c.create_rest.ensures.sound clean first.made.0 is (first.made.1 (has, tt))

pub returns-in-Err-clause-sound : goal.returns-in-Err-clause-sound
returns-in-Err-clause-sound g c clean inside is = absurd (not_made _ c.if_refused.ensures.ok is)
