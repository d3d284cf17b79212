use Rattle.std.proofs.Common.{[], Ok, Result, Option, Vec, Global, inl, inr, refl, sym, ap, subst, ◌∙◌, rules, arith}
use Rattle.sqlite.specs.Effect.{Database}
use Rattle.sqlite.specs.declared.error.Error.{Error}
use Rattle.sqlite.specs.Order.{Row}
use Rattle.sqlite.specs.State.{HasCleanDisk}
use Rattle.sqlite.specs.Held.{state}
use Rattle.sqlite.proofs.Callers.{unchanged_then}
use Rattle.ccr_tables.specs.Contents.{Holds}
use Rattle.ccr_tables.specs.Left.{OnlyReads}
use Rattle.ccr_tables.specs.Shown.{Shows}
use Rattle.ccr_tables.specs.Tables.{listing_text}
use Rattle.ccr_tables.proofs.Lists.{list_rows}
use Rattle.ccr_tables.proofs.Queries.{survives, begun_anywhere, plain_listing, fails_left, unchanged_nothing, nothing_then, only_error, reads_failing, reads_same}
use Rattle.ccr_tables.proofs.GivenRows.{refused_now, fails_given, refused_on, survives_on, shows_on}
use Rattle.ccr_tables.proofs.FailedReads.{failed_read, failed_later, failed_on}
use Rattle.ccr_tables.proofs.Refusals.{unrefused_rows}
use Rattle.ccr_tables.proofs.ShownRows.{shows_text}
use Rattle.ccr_tables.proofs.named_row.select_named.Goals as goal

pub returns-in_err-rows-clause-unrefused : goal.returns-in_err-rows-clause-unrefused
returns-in_err-rows-clause-unrefused g c clean has =
    let held = refused_now g.S.Store (listing_text c.args.table) c.args.conn.now c.query.follows.lender-at-none c.query.result c.in_err-rows.field-0.0 c.in_err-rows.was (rw (c.listing.ensures) at c.query.follows.holds-at-none) in
    refused_on c.query.result c.from_residual.result c.in_err-rows.field-0.0 c.in_err-rows.was c.from_residual.ensures.1
    (unrefused_rows c.args.table (state g.S.Store c.args.conn.now) (state g.S.Store c.query.follows.lender-at-none) c.query.result has (held.err clean))

pub rows-init : goal.rows-init
rows-init g c =
    let made = c.in_ok-rows.ensures in (
      refl,
      rw (c.listing.ensures) at made.survives,
      made.mode,
      λ clean.
          let begun = begun_anywhere g.S.Store (listing_text c.args.table) [] c.args.conn.now c.in_ok-rows.rows.conn.now (plain_listing c.args.table _) (rw (c.listing.ensures) at (made.begun clean)) in
          (begun.1, [], begun.0, c.new.ensures.items),
    )

pub returns-in_err-row-clause-unrefused : goal.returns-in_err-row-clause-unrefused
returns-in_err-row-clause-unrefused g c clean has =
    let moved = c.next.follows.holds-at-none in
    let now = c.next.follows.lender-at-none.conn.now in
    let late : HasCleanDisk (state g.S.Store now) = search rules in
    let was = c.rows.invariant.3 (omega (arith, moved.survives.clean)) in
    let there = ap (λ (d : Database). d.schema) was.0.0.now_is ∙ has in
    refused_on c.next.result c.from_residual-in_err-row.result c.in_err-row.field-0.0 c.in_err-row.was c.from_residual-in_err-row.ensures.1
    (unrefused_rows c.args.table (state g.S.Store c.rows.rows.conn.now) (state g.S.Store now) c.next.result there (fails_given g.S.Store (listing_text c.args.table) c.rows.rows.conn.now now c.next.result was.1 was.2 (moved.err late)))

pub returns-in_default-clause-rows : goal.returns-in_default-clause-rows
returns-in_default-clause-rows g c clean these holds =
    let moved = c.next.follows.holds-at-none in
    let now = c.next.follows.lender-at-none.conn.now in
    let late : HasCleanDisk (state g.S.Store now) = search rules in
    let was = c.rows.invariant.3 (omega (arith, moved.survives.clean)) in
    let shown = (rw (c.in_ok-row.was, c.in_default.is) at (moved.ok late)) (listing_text c.args.table) [] was.1 was.2 in
    (was.1, list_rows c.args.table these (state g.S.Store c.rows.rows.conn.now) (state g.S.Store now) was.1 (subst (Holds these) (sym was.0.0.now_is) holds) shown, was.3)

pub rows-preserved : goal.rows-preserved
rows-preserved g c =
    let moved = c.next.follows.holds-at-none in
    let old = state g.S.Store c.args.conn.now in
    let mid = state g.S.Store c.rows.rows.conn.now in
    let new = state g.S.Store c.next.follows.lender-at-none.conn.now in (
      moved.same_reference ∙ c.rows.invariant.0,
      shows_on (listing_text c.args.table) old mid new c.rows.invariant.1 moved.survives,
      λ idle. moved.mode (c.rows.invariant.2 idle),
      λ late.
          let was = c.rows.invariant.3 (omega (arith, moved.survives.clean)) in
          let given = (rw (c.in_ok-row.was, c.in-Some.is) at (moved.ok late)) (listing_text c.args.table) [] was.1 was.2 in
          let same = rw (c.in_ok-row.was) at (moved.same late) in
          (unchanged_then old mid new was.0 same, _, given, c.in_ok-found.ensures.are was.1 was.3),
    )

pub returns-in_err-rows-clause-reads : goal.returns-in_err-rows-clause-reads
returns-in_err-rows-clause-reads g c =
    let old = state g.S.Store c.args.conn.now in
    let new = state g.S.Store c.query.follows.lender-at-none in
    let held = refused_now g.S.Store (listing_text c.args.table) c.args.conn.now c.query.follows.lender-at-none c.query.result c.in_err-rows.field-0.0 c.in_err-rows.was (rw (c.listing.ensures) at c.query.follows.holds-at-none) in
    reads_failing old new c.from_residual.result (only_error c.from_residual.result _ c.from_residual.ensures.1) (survives (listing_text c.args.table) old new (plain_listing c.args.table _) held.survives)
    (λ clean. fails_left (listing_text c.args.table) old new c.query.result c.in_err-rows.field-0.0 c.in_err-rows.was (held.err clean))

pub returns-in_err-row-clause-reads : goal.returns-in_err-row-clause-reads
returns-in_err-row-clause-reads g c =
    let moved = c.next.follows.holds-at-none in
    let old = state g.S.Store c.args.conn.now in
    let mid = state g.S.Store c.rows.rows.conn.now in
    let last = c.next.follows.lender-at-none.conn.now in
    let now = state g.S.Store last in
    let none = only_error c.from_residual-in_err-row.result _ c.from_residual-in_err-row.ensures.1 in
    let both : OnlyReads old now c.from_residual-in_err-row.result =
    reads_failing old now c.from_residual-in_err-row.result none (survives_on (listing_text c.args.table) old mid now (plain_listing c.args.table _) c.rows.invariant.1 moved.survives)
    (λ late. let was = c.rows.invariant.3 (omega (arith, moved.survives.clean)) in
    nothing_then old mid now (unchanged_nothing old mid was.0)
    (fails_left (listing_text c.args.table) mid now c.next.result c.in_err-row.field-0.0 c.in_err-row.was (fails_given g.S.Store (listing_text c.args.table) c.rows.rows.conn.now last c.next.result was.1 was.2 (moved.err late)))) in
    search rules

pub returns-in_default-clause-reads : goal.returns-in_default-clause-reads
returns-in_default-clause-reads g c =
    let moved = c.next.follows.holds-at-none in
    let old = state g.S.Store c.args.conn.now in
    let mid = state g.S.Store c.rows.rows.conn.now in
    let now = state g.S.Store c.next.follows.lender-at-none.conn.now in
    let result : Result (Option (Vec Row Global)) Error = Ok c.rows.found in
    let both : OnlyReads old now result =
    reads_same old now result (survives_on (listing_text c.args.table) old mid now (plain_listing c.args.table _) c.rows.invariant.1 moved.survives)
    (λ late. unchanged_then old mid now (c.rows.invariant.3 (omega (arith, moved.survives.clean))).0 (rw (c.in_ok-row.was) at (moved.same late))) in
    search rules

pub returns-in_err-found-clause-reads : goal.returns-in_err-found-clause-reads
returns-in_err-found-clause-reads g c =
    let moved = c.next.follows.holds-at-none in
    let old = state g.S.Store c.args.conn.now in
    let mid = state g.S.Store c.rows.rows.conn.now in
    let now = state g.S.Store c.next.follows.lender-at-none.conn.now in
    let both : OnlyReads old now c.from_residual-in_err-found.result =
    reads_same old now c.from_residual-in_err-found.result (survives_on (listing_text c.args.table) old mid now (plain_listing c.args.table _) c.rows.invariant.1 moved.survives)
    (λ late. unchanged_then old mid now (c.rows.invariant.3 (omega (arith, moved.survives.clean))).0 (rw (c.in_ok-row.was) at (moved.same late))) in
    search rules

pub returns-in_err-rows-clause-answered : goal.returns-in_err-rows-clause-answered
returns-in_err-rows-clause-answered g c clean =
    let held = refused_now g.S.Store (listing_text c.args.table) c.args.conn.now c.query.follows.lender-at-none c.query.result c.in_err-rows.field-0.0 c.in_err-rows.was (rw (c.listing.ensures) at c.query.follows.holds-at-none) in
    failed_on g.S.Store (state g.S.Store c.args.conn.now) c.query.result c.from_residual.result c.in_err-rows.field-0.0 c.in_err-rows.was c.from_residual.ensures.1
    (failed_read g.S.Store c.args.conn.now c.query.follows.lender-at-none c.args.table c.query.result (held.err clean))

pub returns-in_err-row-clause-answered : goal.returns-in_err-row-clause-answered
returns-in_err-row-clause-answered g c clean =
    let moved = c.next.follows.holds-at-none in
    let old = state g.S.Store c.args.conn.now in
    let mid = state g.S.Store c.rows.rows.conn.now in
    let now = c.next.follows.lender-at-none.conn.now in
    let late : HasCleanDisk (state g.S.Store now) = search rules in
    let was = c.rows.invariant.3 (omega (arith, moved.survives.clean)) in
    failed_on g.S.Store old c.next.result c.from_residual-in_err-row.result c.in_err-row.field-0.0 c.in_err-row.was c.from_residual-in_err-row.ensures.1
    (failed_later g.S.Store old mid c.next.result was.0.0.now_is (survives (listing_text c.args.table) old mid (plain_listing c.args.table _) c.rows.invariant.1)
    (failed_read g.S.Store c.rows.rows.conn.now now c.args.table c.next.result
    (fails_given g.S.Store (listing_text c.args.table) c.rows.rows.conn.now now c.next.result was.1 was.2 (moved.err late))))

pub returns-in_default-clause-shown : goal.returns-in_default-clause-shown
returns-in_default-clause-shown g c clean =
    let moved = c.next.follows.holds-at-none in
    let now = c.next.follows.lender-at-none.conn.now in
    let late : HasCleanDisk (state g.S.Store now) = search rules in
    let was = c.rows.invariant.3 (omega (arith, moved.survives.clean)) in
    let shown = (rw (c.in_ok-row.was, c.in_default.is) at (moved.ok late)) (listing_text c.args.table) [] was.1 was.2 in (
      was.1,
      subst (λ (db : Database). Shows (listing_text c.args.table) db was.1) was.0.0.now_is (shows_text (listing_text c.args.table) (state g.S.Store c.rows.rows.conn.now) (state g.S.Store now) was.1 (plain_listing c.args.table _) shown),
      was.3,
    )
