use Rattle.std.proofs.Common.{◌∙◌, not, sym, ap, subst, inl}
use Rattle.sqlite.specs.Effect.{Database}
use Rattle.sqlite.specs.Held.{state}
use Rattle.ccr_tables.specs.Contents.{Keeps}
use Rattle.ccr_store.proofs.StoreLemmas.{stored_loaded, reads_store, as_it_was, as_it_was_kept, not_ours_loaded}
use Rattle.ccr_store.specs.Rows.{rows_of}
use Rattle.ccr_store.proofs.OneHistory.{one_history}
use Rattle.ccr_store.proofs.Ours.{left_ours, of_ours}
use Rattle.ccr_store.specs.Causes.{IsUnloaded}
use Rattle.ccr_store.specs.Shown.{ShowsHistory}
use Rattle.ccr_store.specs.declared.format.Format.TheVariants.{Two}
use Rattle.ccr_store.specs.StoreData.{StoreData}
use Rattle.ccr_store.proofs.ReadFaults.{err_so}
use Rattle.ccr_store.proofs.store.Store.load.Goals as goal

pub returns-clause-stored : goal.returns-clause-stored
returns-clause-stored g c clean these holds =
    stored_loaded g.S.Store (record { conn = c.self.inside.conn; tally = c.self.inside.tally }) c.args.self.now (state g.S.Store c.load.new.conn) c.in_ok-history.history these c.self.view_is
    c.in_ok-history.ensures.rules (c.in_ok-history.ensures.rows clean these) (c.in_ok-history.ensures.reads.same clean) holds

pub returns-clause-only : goal.returns-clause-only
returns-clause-only g c clean h rules holds =
    let both =
    stored_loaded g.S.Store (record { conn = c.self.inside.conn; tally = c.self.inside.tally }) c.args.self.now (state g.S.Store c.load.new.conn) c.in_ok-history.history (rows_of h) c.self.view_is
    c.in_ok-history.ensures.rules (c.in_ok-history.ensures.rows clean (rows_of h)) (c.in_ok-history.ensures.reads.same clean) holds in
    sym (one_history c.in_ok-history.history h both.1.rules rules both.0)

pub returns-clause-same : goal.returns-clause-same
returns-clause-same g c clean =
    (reads_store g.S.Store (record { conn = c.self.inside.conn; tally = c.self.inside.tally }) c.args.self.now (state g.S.Store c.load.new.conn) _ c.self.view_is c.in_ok-history.ensures.reads).same clean

pub returns-clause-crash : goal.returns-clause-crash
returns-clause-crash g c =
    (reads_store g.S.Store (record { conn = c.self.inside.conn; tally = c.self.inside.tally }) c.args.self.now (state g.S.Store c.load.new.conn) _ c.self.view_is c.in_ok-history.ensures.reads).crash

pub returns-clause-left : goal.returns-clause-left
returns-clause-left g c clean =
    as_it_was_kept g.S.Store (record { conn = c.self.inside.conn; tally = c.self.inside.tally }) c.args.self.now (state g.S.Store c.load.new.conn) c.self.view_is
    (λ up. c.is_autocommit.ensures.settled (c.is_autocommit.ensures.value ∙ ap not c.self.invariant) up) (c.in_ok-history.ensures.reads.left clean)

pub returns-clause-kept : goal.returns-clause-kept
returns-clause-kept g c these holds clean up =
    let both =
    stored_loaded g.S.Store (record { conn = c.self.inside.conn; tally = c.self.inside.tally }) c.args.self.now (state g.S.Store c.load.new.conn) c.in_ok-history.history these c.self.view_is
    c.in_ok-history.ensures.rules (c.in_ok-history.ensures.rows clean these) (c.in_ok-history.ensures.reads.same clean) holds in
    let settled = c.is_autocommit.ensures.settled (c.is_autocommit.ensures.value ∙ ap not c.self.invariant) in
    let was = as_it_was (state g.S.Store c.self.inside.conn) (state g.S.Store c.load.new.conn) settled (c.in_ok-history.ensures.reads.left clean) in
    (was.now up ∙ settled (was.was_open up) ∙ sym (was.committed up), both.1.rules, both.1.rows)

pub returns-in_err-history-clause-not_ours : goal.returns-in_err-history-clause-not_ours
returns-in_err-history-clause-not_ours g c clean =
    not_ours_loaded g.S.Store (record { conn = c.self.inside.conn; tally = c.self.inside.tally }) c.args.self.now c.from_residual.result _ c.self.view_is c.from_residual.ensures.1 (c.in_err-history.ensures.not_ours clean)

pub returns-in_err-history-clause-crash : goal.returns-in_err-history-clause-crash
returns-in_err-history-clause-crash g c =
    (reads_store g.S.Store (record { conn = c.self.inside.conn; tally = c.self.inside.tally }) c.args.self.now (state g.S.Store c.load.new.conn) _ c.self.view_is c.in_err-history.ensures.reads).crash

pub returns-in_err-history-clause-left : goal.returns-in_err-history-clause-left
returns-in_err-history-clause-left g c clean =
    as_it_was_kept g.S.Store (record { conn = c.self.inside.conn; tally = c.self.inside.tally }) c.args.self.now (state g.S.Store c.load.new.conn) c.self.view_is
    (λ up. c.is_autocommit.ensures.settled (c.is_autocommit.ensures.value ∙ ap not c.self.invariant) up) (c.in_err-history.ensures.reads.left clean)

pub returns-clause-leaves : goal.returns-clause-leaves
returns-clause-leaves g c these holds clean trees may =
    let both =
    stored_loaded g.S.Store (record { conn = c.self.inside.conn; tally = c.self.inside.tally }) c.args.self.now (state g.S.Store c.load.new.conn) c.in_ok-history.history these c.self.view_is
    c.in_ok-history.ensures.rules (c.in_ok-history.ensures.rows clean these) (c.in_ok-history.ensures.reads.same clean) holds in
    let up = (c.in_ok-history.ensures.reads.same clean).0.is_open in
    let settled = c.is_autocommit.ensures.settled (c.is_autocommit.ensures.value ∙ ap not c.self.invariant) in
    let was = as_it_was (state g.S.Store c.self.inside.conn) (state g.S.Store c.load.new.conn) settled (c.in_ok-history.ensures.reads.left clean) in
    let now_is = was.now up ∙ settled (was.was_open up) ∙ sym (was.committed up) in
    let same = g.met.S.Store.settled c.load.new.conn.store trees up may in (
      inl (subst (Keeps (rows_of c.in_ok-history.history)) (ap (λ (d : Database). d.trees) now_is ∙ sym same) both.1.rows.rows),
      left_ours (state g.S.Store c.load.new.conn) c.schema.ensures.live up (sym (ap (λ (d : Database). d.schema) now_is) ∙ both.1.rows.schema) trees same,
    )

pub returns-in_err-history-clause-answered : goal.returns-in_err-history-clause-answered
returns-in_err-history-clause-answered g c clean =
    err_so c.from_residual.result (IsUnloaded g.S.Store (state g.S.Store c.args.self.now.conn) Two) _
    c.from_residual.ensures.1
    (subst (λ (k : StoreData _). IsUnloaded g.S.Store (state g.S.Store k.conn) Two c.in_err-history.field-0.0) c.self.view_is
    (c.in_err-history.ensures.answered clean))

pub returns-clause-shown : goal.returns-clause-shown
returns-clause-shown g c clean =
    subst (λ (k : StoreData _). ShowsHistory Two c.in_ok-history.history (state g.S.Store k.conn).now) c.self.view_is (c.in_ok-history.ensures.shown clean)

pub returns-clause-ours : goal.returns-clause-ours
returns-clause-ours g c clean = λ was taken.
    let old : Database = (state g.S.Store c.args.self.now.conn).now in
    let only = returns-clause-only g c clean in
    of_ours was old c.in_ok-history.history only (returns-clause-shown g c clean) taken
