use Rattle.std.proofs.lemmas.Result.{IfOk-weaker}
use Rattle.ccr_history.specs.History.{HistoryData}
use Rattle.ccr_store.specs.Listed.{without_builds}
use Rattle.ccr_store.specs.Rows.{rows_in}
use Rattle.ccr_store.proofs.ShownRows.{shown_seen}
use Rattle.ccr_store.proofs.StoreLemmas.{or_fault}
use Rattle.std.proofs.Common.{◌≡◌, inr}
use Rattle.sqlite.specs.Held.{state}
use Rattle.ccr_tables.proofs.Queries.{reads_on, reads_failed}
use Rattle.ccr_store.proofs.ReadFaults.{fault_of_read, unseen, seen_shown}
use Rattle.ccr_store.proofs.loading.load_seen.Goals as goal

pub returns-in-Ok-clause-rows : goal.returns-in-Ok-clause-rows
returns-in-Ok-clause-rows g c clean =
    IfOk-weaker c.tables_of.result _ _ (λ h lists these holds. (c.in-Ok.seen.meta.items, c.in-Ok.seen.scopes.items, c.in-Ok.seen.versions.items, c.in-Ok.ensures.rows clean these holds, lists)) c.tables_of.ensures.rows

pub returns-in-Ok-clause-only : goal.returns-in-Ok-clause-only
returns-in-Ok-clause-only g c clean h rules texts readable holds =
    or_fault (λ (history : HistoryData). history ≡ without_builds h) c.tables_of.result
    (c.tables_of.ensures.only h rules texts readable (shown_seen c.args.format h c.in-Ok.seen.meta.items c.in-Ok.seen.scopes.items c.in-Ok.seen.versions.items (c.in-Ok.ensures.rows clean (rows_in c.args.format h) holds)))

pub returns-in-Err-clause-only : goal.returns-in-Err-clause-only
returns-in-Err-clause-only g c clean h rules texts readable holds = λ ours. c.in-Err.ensures.unrefused clean holds.schema (c.read_fault_of.ensures.refused ours)

pub returns-in-Ok-clause-reads : goal.returns-in-Ok-clause-reads
returns-in-Ok-clause-reads g c = reads_on (state g.S.Store c.args.conn.now) (state g.S.Store c.read_seen.new.conn) _ _ c.in-Ok.ensures.reads

pub returns-in-Err-clause-reads : goal.returns-in-Err-clause-reads
returns-in-Err-clause-reads g c = reads_failed (state g.S.Store c.args.conn.now) (state g.S.Store c.read_seen.new.conn) _ _ tt c.in-Err.ensures.reads

pub returns-in-Ok-clause-answered : goal.returns-in-Ok-clause-answered
returns-in-Ok-clause-answered g c clean =
    unseen g.S.Store (state g.S.Store c.args.conn.now) c.args.format (λ h (history : HistoryData). history ≡ without_builds h) c.tables_of.result c.in-Ok.seen.meta.items c.in-Ok.seen.scopes.items c.in-Ok.seen.versions.items (c.in-Ok.ensures.shown clean)
    c.tables_of.ensures.only c.tables_of.ensures.comes

pub returns-in-Ok-clause-seen : goal.returns-in-Ok-clause-seen
returns-in-Ok-clause-seen g c clean =
    seen_shown c.args.format (state g.S.Store c.args.conn.now).now c.tables_of.result c.in-Ok.seen.meta.items c.in-Ok.seen.scopes.items c.in-Ok.seen.versions.items (c.in-Ok.ensures.shown clean) c.tables_of.ensures.rows c.tables_of.ensures.only

pub returns-in-Err-clause-answered : goal.returns-in-Err-clause-answered
returns-in-Err-clause-answered g c clean =
    fault_of_read g.S.Store (state g.S.Store c.args.conn.now) c.args.format c.in-Err.error c.read_fault_of.result c.read_fault_of.ensures.exact
    (inr (c.in-Err.ensures.answered clean))
