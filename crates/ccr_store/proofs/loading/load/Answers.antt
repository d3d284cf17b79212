use Rattle.std.proofs.Common.{sym, subst}
use Rattle.sqlite.specs.Effect.{Database}
use Rattle.sqlite.specs.State.{HasCleanDisk}
use Rattle.sqlite.specs.Held.{state}
use Rattle.ccr_tables.specs.Contents.{Holds}
use Rattle.ccr_tables.proofs.Queries.{reads_then}
use Rattle.ccr_store.specs.Rows.{rows_in}
use Rattle.ccr_store.proofs.StoreLemmas.{not_ours_read, fault_on, rows_loaded, readable_on}
use Rattle.ccr_store.specs.Causes.{IsUnloaded}
use Rattle.ccr_store.specs.Shown.{IsSeenOf}
use Rattle.ccr_store.proofs.ReadFaults.{err_so, fault_after, history_shown}
use Rattle.ccr_store.proofs.loading.load.Goals as goal

pub returns-in_err-history-clause-not_ours : goal.returns-in_err-history-clause-not_ours
returns-in_err-history-clause-not_ours g c clean =
    not_ours_read c.args.format c.from_residual.result (state g.S.Store c.args.conn.now).now
    (λ h rules texts readable fits holds. fault_on c.from_residual.result _ c.from_residual.ensures.1 (c.in_err-history.ensures.only clean h rules texts readable holds))

pub returns-clause-rows : goal.returns-clause-rows
returns-clause-rows g c clean =
    let old = state g.S.Store c.args.conn.now in
    let mid = state g.S.Store c.load_seen.new.conn in
    let clean_mid : HasCleanDisk mid = c.load_built.ensures.clean clean in
    rows_loaded c.args.format c.load_built.result c.in_ok-history.history old.now mid.now (λ has. (c.in_ok-history.ensures.reads.same clean_mid).0.now_is) (c.in_ok-history.ensures.rows clean_mid) c.load_built.ensures.kept (c.load_built.ensures.rows clean)

pub returns-clause-reads : goal.returns-clause-reads
returns-clause-reads g c =
    let old = state g.S.Store c.args.conn.now in
    let mid = state g.S.Store c.load_seen.new.conn in
    let new = state g.S.Store c.load_built.new.conn in
    reads_then old mid new _ _ c.in_ok-history.ensures.reads c.load_built.ensures.reads

pub returns-clause-readable : goal.returns-clause-readable
returns-clause-readable g c = readable_on c.load_built.result c.in_ok-history.history c.in_ok-history.ensures.readable c.load_built.ensures.kept

pub returns-clause-not_ours : goal.returns-clause-not_ours
returns-clause-not_ours g c clean =
    let mid = state g.S.Store c.load_seen.new.conn in
    let clean_mid : HasCleanDisk mid = c.load_built.ensures.clean clean in
    not_ours_read c.args.format c.load_built.result (state g.S.Store c.args.conn.now).now
    (λ h rules texts readable fits holds.
    let holds_mid : Holds (rows_in c.args.format h) mid.now = subst (Holds (rows_in c.args.format h)) (sym (c.in_ok-history.ensures.reads.same clean_mid).0.now_is) holds in
    c.load_built.ensures.only clean h rules texts fits (c.in_ok-history.ensures.only clean_mid h rules texts readable holds) holds_mid)

pub returns-in_err-history-clause-answered : goal.returns-in_err-history-clause-answered
returns-in_err-history-clause-answered g c clean =
    err_so c.from_residual.result
    (IsUnloaded g.S.Store (state g.S.Store c.args.conn.now) c.args.format) _
    c.from_residual.ensures.1 (c.in_err-history.ensures.answered clean)

pub returns-clause-answered : goal.returns-clause-answered
returns-clause-answered g c clean =
    let mid = state g.S.Store c.load_seen.new.conn in
    let clean_mid : HasCleanDisk mid = c.load_built.ensures.clean clean in
    let same = (c.in_ok-history.ensures.reads.same clean_mid).0.now_is in
    fault_after g.S.Store (state g.S.Store c.args.conn.now) mid c.args.format c.load_built.result same
    c.in_ok-history.ensures.reads.crash (c.load_built.ensures.answered clean (subst (λ (d : Database). IsSeenOf c.args.format d c.in_ok-history.history) (sym same) (c.in_ok-history.ensures.seen clean_mid)))

pub returns-clause-shown : goal.returns-clause-shown
returns-clause-shown g c clean =
    let mid = state g.S.Store c.load_seen.new.conn in
    let clean_mid : HasCleanDisk mid = c.load_built.ensures.clean clean in
    history_shown c.args.format (state g.S.Store c.args.conn.now).now mid.now c.in_ok-history.history c.load_built.result (c.in_ok-history.ensures.reads.same clean_mid).0.now_is
    (c.in_ok-history.ensures.seen clean_mid) c.load_built.ensures.kept (c.load_built.ensures.shown clean)
