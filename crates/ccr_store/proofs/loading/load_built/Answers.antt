use Rattle.std.proofs.lemmas.Result.{IfOk-weaker}
use Rattle.ccr_store.specs.Rows.{rows_in}
use Rattle.ccr_store.proofs.ShownRows.{shown_built}
use Rattle.ccr_store.proofs.StoreLemmas.{if_fault}
use Rattle.sqlite.specs.Held.{state}
use Rattle.ccr_tables.proofs.Queries.{reads_on, reads_failed}
use Rattle.ccr_store.proofs.ReadFaults.{unbuilt}
use Rattle.ccr_store.proofs.loading.load_built.Goals as goal

pub returns-in-Ok-clause-rows : goal.returns-in-Ok-clause-rows
returns-in-Ok-clause-rows g c clean =
    IfOk-weaker c.history_of.result _ _ (λ h lists these holds. (c.in-Ok.built.builds.items, c.in-Ok.built.pairs.items, c.in-Ok.built.pins.items, c.in-Ok.ensures.rows clean these holds, lists)) c.history_of.ensures.rows

pub returns-in-Ok-clause-only : goal.returns-in-Ok-clause-only
returns-in-Ok-clause-only g c clean h rules texts fits was holds =
    if_fault c.history_of.result (c.history_of.ensures.only h rules texts fits was (shown_built c.args.format h c.in-Ok.built.builds.items c.in-Ok.built.pairs.items c.in-Ok.built.pins.items rules (c.in-Ok.ensures.rows clean (rows_in c.args.format h) holds)))

pub returns-in-Ok-clause-reads : goal.returns-in-Ok-clause-reads
returns-in-Ok-clause-reads g c = reads_on (state g.S.Store c.args.conn.now) (state g.S.Store c.found_in.new.conn) _ _ c.in-Ok.ensures.reads

pub returns-in-Err-clause-reads : goal.returns-in-Err-clause-reads
returns-in-Err-clause-reads g c = reads_failed (state g.S.Store c.args.conn.now) (state g.S.Store c.found_in.new.conn) _ _ tt c.in-Err.ensures.reads

pub returns-in-Ok-clause-answered : goal.returns-in-Ok-clause-answered
returns-in-Ok-clause-answered g c clean seen =
    unbuilt g.S.Store (state g.S.Store c.args.conn.now) c.args.format c.args.history c.history_of.result c.in-Ok.built.builds.items c.in-Ok.built.pairs.items c.in-Ok.built.pins.items seen (c.in-Ok.ensures.shown clean)
    c.history_of.ensures.only c.history_of.ensures.comes

pub returns-in-Ok-clause-shown : goal.returns-in-Ok-clause-shown
returns-in-Ok-clause-shown g c clean =
    IfOk-weaker c.history_of.result _ _ (λ it lists. (c.in-Ok.built.builds.items, c.in-Ok.built.pairs.items, c.in-Ok.built.pins.items, c.in-Ok.ensures.shown clean, lists)) c.history_of.ensures.rows

pub returns-in-Err-clause-answered : goal.returns-in-Err-clause-answered
returns-in-Err-clause-answered g c clean seen = c.in-Err.ensures.answered clean c.args.format
