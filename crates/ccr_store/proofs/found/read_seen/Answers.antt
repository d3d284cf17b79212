use Rattle.std.proofs.Common.{sym, subst, ◌∙◌}
use Rattle.sqlite.specs.Effect.{Database}
use Rattle.sqlite.specs.State.{HasCleanDisk}
use Rattle.sqlite.specs.Held.{state}
use Rattle.ccr_tables.specs.Contents.{Holds}
use Rattle.ccr_tables.proofs.Queries.{reads_then, reads_on, reads_failed, only_error}
use Rattle.ccr_tables.specs.Read.{FailedToRead}
use Rattle.ccr_tables.specs.Tables.{listing_text}
use Rattle.ccr_tables.specs.declared.table.Table.TheVariants as table
use Rattle.ccr_tables.specs.Shown.{Shows}
use Rattle.ccr_tables.proofs.FailedReads.{failed_after}
use Rattle.ccr_tables.proofs.InTurn.{survives_both}
use Rattle.ccr_store.proofs.ReadFaults.{err_so}
use Rattle.ccr_store.proofs.found.read_seen.Goals as goal

pub returns-clause-rows : goal.returns-clause-rows
returns-clause-rows g c clean these holds =
    let s1 = state g.S.Store c.select.new.conn in
    let s2 = state g.S.Store c.select-2.new.conn in
    let clean2 : HasCleanDisk s2 = c.select-3.ensures.clean clean in
    let clean1 : HasCleanDisk s1 = c.select-2.ensures.clean clean2 in
    let holds1 : Holds these s1.now = subst (Holds these) (sym (c.in_ok-meta.ensures.reads.same clean1).0.now_is) holds in
    let holds2 : Holds these s2.now = subst (Holds these) (sym (c.in_ok-scopes.ensures.reads.same clean2).0.now_is) holds1 in
    record {
      set = c.in_ok-meta.ensures.rows clean1 these holds;
      named = c.in_ok-scopes.ensures.rows clean2 these holds1;
      reported = c.in_ok-versions.ensures.rows clean these holds2;
    }

pub returns-in_err-scopes-clause-reads : goal.returns-in_err-scopes-clause-reads
returns-in_err-scopes-clause-reads g c =
    let s0 = state g.S.Store c.args.conn.now in
    let s1 = state g.S.Store c.select.new.conn in
    let s2 = state g.S.Store c.select-2.new.conn in
    reads_failed s0 s2 _ c.from_residual-in_err-scopes.result (only_error c.from_residual-in_err-scopes.result _ c.from_residual-in_err-scopes.ensures.1)
    (reads_then s0 s1 s2 _ _ c.in_ok-meta.ensures.reads c.in_err-scopes.ensures.reads)

pub returns-in_err-versions-clause-reads : goal.returns-in_err-versions-clause-reads
returns-in_err-versions-clause-reads g c =
    let s0 = state g.S.Store c.args.conn.now in
    let s1 = state g.S.Store c.select.new.conn in
    let s2 = state g.S.Store c.select-2.new.conn in
    let s3 = state g.S.Store c.select-3.new.conn in
    reads_failed s0 s3 _ c.from_residual-in_err-versions.result (only_error c.from_residual-in_err-versions.result _ c.from_residual-in_err-versions.ensures.1)
    (reads_then s0 s2 s3 _ _ (reads_then s0 s1 s2 _ _ c.in_ok-meta.ensures.reads c.in_ok-scopes.ensures.reads) c.in_err-versions.ensures.reads)

pub returns-clause-reads : goal.returns-clause-reads
returns-clause-reads g c =
    let s0 = state g.S.Store c.args.conn.now in
    let s1 = state g.S.Store c.select.new.conn in
    let s2 = state g.S.Store c.select-2.new.conn in
    let s3 = state g.S.Store c.select-3.new.conn in
    reads_on s0 s3 _ _ (reads_then s0 s2 s3 _ _ (reads_then s0 s1 s2 _ _ c.in_ok-meta.ensures.reads c.in_ok-scopes.ensures.reads) c.in_ok-versions.ensures.reads)

pub returns-clause-open : goal.returns-clause-open
returns-clause-open g c clean = c.in_ok-meta.ensures.open (c.select-2.ensures.clean (c.select-3.ensures.clean clean))

pub returns-in_err-scopes-clause-answered : goal.returns-in_err-scopes-clause-answered
returns-in_err-scopes-clause-answered g c clean =
    let s0 = state g.S.Store c.args.conn.now in
    let s1 = state g.S.Store c.select.new.conn in
    err_so c.from_residual-in_err-scopes.result (FailedToRead g.S.Store s0) _ c.from_residual-in_err-scopes.ensures.1
    (failed_after g.S.Store s0 s1 _ (c.in_ok-meta.ensures.reads.same (c.select-2.ensures.clean clean)).0.now_is c.in_ok-meta.ensures.reads.crash (c.in_err-scopes.ensures.answered clean))

pub returns-in_err-versions-clause-answered : goal.returns-in_err-versions-clause-answered
returns-in_err-versions-clause-answered g c clean =
    let s0 = state g.S.Store c.args.conn.now in
    let s1 = state g.S.Store c.select.new.conn in
    let s2 = state g.S.Store c.select-2.new.conn in
    err_so c.from_residual-in_err-versions.result (FailedToRead g.S.Store s0) _ c.from_residual-in_err-versions.ensures.1
    (failed_after g.S.Store s0 s2 _ ((c.in_ok-scopes.ensures.reads.same (c.select-3.ensures.clean clean)).0.now_is ∙ (c.in_ok-meta.ensures.reads.same (c.select-2.ensures.clean (c.select-3.ensures.clean clean))).0.now_is)
    (survives_both s0 s1 s2 c.in_ok-meta.ensures.reads.crash c.in_ok-scopes.ensures.reads.crash)
    (c.in_err-versions.ensures.answered clean))

pub returns-clause-shown : goal.returns-clause-shown
returns-clause-shown g c clean =
    let s1 = state g.S.Store c.select.new.conn in
    let s2 = state g.S.Store c.select-2.new.conn in
    let clean2 : HasCleanDisk s2 = c.select-3.ensures.clean clean in
    let clean1 : HasCleanDisk s1 = c.select-2.ensures.clean clean2 in
    let same1 = (c.in_ok-meta.ensures.reads.same clean1).0.now_is in
    let same2 = (c.in_ok-scopes.ensures.reads.same clean2).0.now_is ∙ same1 in
    record {
      set = c.in_ok-meta.ensures.shown clean1;
      named = subst (λ (d : Database). Shows (listing_text table.Scopes) d c.in_ok-scopes.scopes.items) same1 (c.in_ok-scopes.ensures.shown clean2);
      reported = subst (λ (d : Database). Shows (listing_text table.Versions) d c.in_ok-versions.versions.items) same2 (c.in_ok-versions.ensures.shown clean);
    }
