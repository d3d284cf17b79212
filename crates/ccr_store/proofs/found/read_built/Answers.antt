use Rattle.std.proofs.Common.{◌≡◌, ◌⊎◌, inl, inr, sym, subst, ◌∙◌}
use Rattle.sqlite.specs.Effect.{Database}
use Rattle.sqlite.specs.State.{HasCleanDisk}
use Rattle.sqlite.specs.Held.{state}
use Rattle.ccr_tables.specs.NamedRows.{IsNamedRow}
use Rattle.ccr_tables.specs.Contents.{Holds}
use Rattle.ccr_tables.proofs.Queries.{reads_then, reads_on, reads_failed, only_error}
use Rattle.ccr_store.proofs.ListedRows.{found_listed, found_other, shown_found, shown_other}
use Rattle.ccr_tables.specs.Cause.{cause_of}
use Rattle.ccr_tables.specs.declared.cause.Cause.TheVariants.{NoMemory}
use Rattle.ccr_tables.specs.Read.{FailedToRead}
use Rattle.ccr_tables.specs.Tables.{listing_text}
use Rattle.ccr_tables.specs.declared.table.Table.TheVariants as table
use Rattle.ccr_tables.specs.Shown.{Shows, ShowsOther}
use Rattle.ccr_tables.proofs.InTurn.{survives_both}
use Rattle.ccr_store.proofs.ReadFaults.{err_so, read_after}
use Rattle.ccr_store.proofs.found.read_built.Goals as goal

pub returns-in_default-clause-none : goal.returns-in_default-clause-none
returns-in_default-clause-none g c clean these holds =
    inl (found_other IsNamedRow 1 these.builds c.in_ok-builds.field-0 c.in_default.not-Some (c.in_ok-builds.ensures.rows clean these holds))

pub returns-in_default-clause-reads : goal.returns-in_default-clause-reads
returns-in_default-clause-reads g c = reads_on (state g.S.Store c.args.conn.now) (state g.S.Store c.select_named.new.conn) _ _ c.in_ok-builds.ensures.reads

pub returns-in_default-2-clause-none : goal.returns-in_default-2-clause-none
returns-in_default-2-clause-none g c clean these holds =
    let s1 = state g.S.Store c.select_named.new.conn in
    let clean1 : HasCleanDisk s1 = c.select_named-2.ensures.clean clean in
    let holds1 : Holds these s1.now = subst (Holds these) (sym (c.in_ok-builds.ensures.reads.same clean1).0.now_is) holds in
    inr (found_other IsNamedRow 4 these.pairs c.in_ok-pairs.field-0 c.in_default-2.not-Some (c.in_ok-pairs.ensures.rows clean these holds1))

pub returns-in_err-pairs-clause-reads : goal.returns-in_err-pairs-clause-reads
returns-in_err-pairs-clause-reads g c =
    let s0 = state g.S.Store c.args.conn.now in
    let s1 = state g.S.Store c.select_named.new.conn in
    let s2 = state g.S.Store c.select_named-2.new.conn in
    reads_failed s0 s2 _ c.from_residual-in_err-pairs.result (only_error c.from_residual-in_err-pairs.result _ c.from_residual-in_err-pairs.ensures.1)
    (reads_then s0 s1 s2 _ _ c.in_ok-builds.ensures.reads c.in_err-pairs.ensures.reads)

pub returns-in_default-2-clause-reads : goal.returns-in_default-2-clause-reads
returns-in_default-2-clause-reads g c =
    let s0 = state g.S.Store c.args.conn.now in
    let s1 = state g.S.Store c.select_named.new.conn in
    let s2 = state g.S.Store c.select_named-2.new.conn in
    reads_on s0 s2 _ _ (reads_then s0 s1 s2 _ _ c.in_ok-builds.ensures.reads c.in_ok-pairs.ensures.reads)

pub returns-in_err-pins-clause-reads : goal.returns-in_err-pins-clause-reads
returns-in_err-pins-clause-reads g c =
    let s0 = state g.S.Store c.args.conn.now in
    let s1 = state g.S.Store c.select_named.new.conn in
    let s2 = state g.S.Store c.select_named-2.new.conn in
    let s3 = state g.S.Store c.select.new.conn in
    reads_failed s0 s3 _ c.from_residual-in_err-pins.result (only_error c.from_residual-in_err-pins.result _ c.from_residual-in_err-pins.ensures.1)
    (reads_then s0 s2 s3 _ _ (reads_then s0 s1 s2 _ _ c.in_ok-builds.ensures.reads c.in_ok-pairs.ensures.reads) c.in_err-pins.ensures.reads)

pub returns-clause-rows : goal.returns-clause-rows
returns-clause-rows g c clean these holds =
    let s1 = state g.S.Store c.select_named.new.conn in
    let s2 = state g.S.Store c.select_named-2.new.conn in
    let clean2 : HasCleanDisk s2 = c.select.ensures.clean clean in
    let clean1 : HasCleanDisk s1 = c.select_named-2.ensures.clean clean2 in
    let holds1 : Holds these s1.now = subst (Holds these) (sym (c.in_ok-builds.ensures.reads.same clean1).0.now_is) holds in
    let holds2 : Holds these s2.now = subst (Holds these) (sym (c.in_ok-pairs.ensures.reads.same clean2).0.now_is) holds1 in
    record {
      made = found_listed IsNamedRow 1 these.builds c.in_ok-builds.field-0 c.in-Some.builds c.in-Some.is (c.in_ok-builds.ensures.rows clean1 these holds);
      given = found_listed IsNamedRow 4 these.pairs c.in_ok-pairs.field-0 c.in-Some-2.pairs c.in-Some-2.is (c.in_ok-pairs.ensures.rows clean2 these holds1);
      held = c.in_ok-pins.ensures.rows clean these holds2;
    }

pub returns-clause-reads : goal.returns-clause-reads
returns-clause-reads g c =
    let s0 = state g.S.Store c.args.conn.now in
    let s1 = state g.S.Store c.select_named.new.conn in
    let s2 = state g.S.Store c.select_named-2.new.conn in
    let s3 = state g.S.Store c.select.new.conn in
    reads_on s0 s3 _ _ (reads_then s0 s2 s3 _ _ (reads_then s0 s1 s2 _ _ c.in_ok-builds.ensures.reads c.in_ok-pairs.ensures.reads) c.in_ok-pins.ensures.reads)

pub returns-in_err-builds-clause-answered : goal.returns-in_err-builds-clause-answered
returns-in_err-builds-clause-answered g c clean =
    let s0 = state g.S.Store c.args.conn.now in
    err_so c.from_residual.result (λ e. (cause_of e ≡ NoMemory) ⊎ FailedToRead g.S.Store s0 e) _ c.from_residual.ensures.1
    (c.in_err-builds.ensures.answered clean)

pub returns-in_err-pairs-clause-answered : goal.returns-in_err-pairs-clause-answered
returns-in_err-pairs-clause-answered g c clean =
    let s0 = state g.S.Store c.args.conn.now in
    let s1 = state g.S.Store c.select_named.new.conn in
    err_so c.from_residual-in_err-pairs.result (λ e. (cause_of e ≡ NoMemory) ⊎ FailedToRead g.S.Store s0 e) _
    c.from_residual-in_err-pairs.ensures.1
    (read_after g.S.Store s0 s1 _ (c.in_ok-builds.ensures.reads.same (c.select_named-2.ensures.clean clean)).0.now_is c.in_ok-builds.ensures.reads.crash (c.in_err-pairs.ensures.answered clean))

pub returns-in_err-pins-clause-answered : goal.returns-in_err-pins-clause-answered
returns-in_err-pins-clause-answered g c clean =
    let s0 = state g.S.Store c.args.conn.now in
    let s1 = state g.S.Store c.select_named.new.conn in
    let s2 = state g.S.Store c.select_named-2.new.conn in
    err_so c.from_residual-in_err-pins.result (λ e. (cause_of e ≡ NoMemory) ⊎ FailedToRead g.S.Store s0 e) _
    c.from_residual-in_err-pins.ensures.1
    (read_after g.S.Store s0 s2 _
    ((c.in_ok-pairs.ensures.reads.same (c.select.ensures.clean clean)).0.now_is ∙ (c.in_ok-builds.ensures.reads.same (c.select_named-2.ensures.clean (c.select.ensures.clean clean))).0.now_is)
    (survives_both s0 s1 s2 c.in_ok-builds.ensures.reads.crash c.in_ok-pairs.ensures.reads.crash)
    (inr (c.in_err-pins.ensures.answered clean)))

pub returns-in_default-clause-other : goal.returns-in_default-clause-other
returns-in_default-clause-other g c clean =
    let s0 = state g.S.Store c.args.conn.now in
    inl (shown_other IsNamedRow (listing_text table.Builds) s0.now c.in_ok-builds.field-0 c.in_default.not-Some (c.in_ok-builds.ensures.shown clean))

pub returns-in_default-2-clause-other : goal.returns-in_default-2-clause-other
returns-in_default-2-clause-other g c clean =
    let s1 = state g.S.Store c.select_named.new.conn in
    let clean1 : HasCleanDisk s1 = c.select_named-2.ensures.clean clean in
    inr (subst (λ (d : Database). ShowsOther IsNamedRow (listing_text table.Pairs) d) (c.in_ok-builds.ensures.reads.same clean1).0.now_is
    (shown_other IsNamedRow (listing_text table.Pairs) s1.now c.in_ok-pairs.field-0 c.in_default-2.not-Some (c.in_ok-pairs.ensures.shown clean)))

pub returns-clause-shown : goal.returns-clause-shown
returns-clause-shown g c clean =
    let s0 = state g.S.Store c.args.conn.now in
    let s1 = state g.S.Store c.select_named.new.conn in
    let s2 = state g.S.Store c.select_named-2.new.conn in
    let clean2 : HasCleanDisk s2 = c.select.ensures.clean clean in
    let clean1 : HasCleanDisk s1 = c.select_named-2.ensures.clean clean2 in
    let same1 = (c.in_ok-builds.ensures.reads.same clean1).0.now_is in
    let same2 = (c.in_ok-pairs.ensures.reads.same clean2).0.now_is ∙ same1 in
    record {
      made = shown_found IsNamedRow (listing_text table.Builds) s0.now c.in_ok-builds.field-0 c.in-Some.builds c.in-Some.is (c.in_ok-builds.ensures.shown clean1);
      given = subst (λ (d : Database). Shows (listing_text table.Pairs) d c.in-Some-2.pairs.items) same1
          (shown_found IsNamedRow (listing_text table.Pairs) s1.now c.in_ok-pairs.field-0 c.in-Some-2.pairs c.in-Some-2.is (c.in_ok-pairs.ensures.shown clean2));
      held = subst (λ (d : Database). Shows (listing_text table.Pins) d c.in_ok-pins.pins.items) same2 (c.in_ok-pins.ensures.shown clean);
    }
