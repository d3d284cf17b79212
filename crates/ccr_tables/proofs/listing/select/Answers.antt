use Rattle.sqlite.specs.Held.{state}
use Rattle.ccr_tables.specs.Tables.{listing_text}
use Rattle.ccr_tables.proofs.Lists.{lists}
use Rattle.ccr_tables.proofs.Selects.{shown_open}
use Rattle.ccr_tables.proofs.Queries.{only_reads, plain_listing}
use Rattle.ccr_tables.proofs.FailedReads.{failed_read}
use Rattle.ccr_tables.proofs.Refusals.{unrefused_rows}
use Rattle.ccr_tables.proofs.ShownRows.{shown_text}
use Rattle.ccr_tables.proofs.listing.select.Goals as goal

pub returns-clause-rows : goal.returns-clause-rows
returns-clause-rows g c clean =
    lists c.args.table (state g.S.Store c.args.conn.now) (state g.S.Store c.query_all.new.self) c.query_all.result (rw (c.listing.ensures) at (c.query_all.ensures.ok clean))

pub returns-clause-reads : goal.returns-clause-reads
returns-clause-reads g c =
    let text = listing_text c.args.table in
    only_reads text (state g.S.Store c.args.conn.now) (state g.S.Store c.query_all.new.self) c.query_all.result (plain_listing c.args.table _)
    (rw (c.listing.ensures) at c.query_all.ensures.survives) (rw (c.listing.ensures) at c.query_all.ensures.ok) (rw (c.listing.ensures) at c.query_all.ensures.err)

pub returns-clause-open : goal.returns-clause-open
returns-clause-open g c clean =
    shown_open (λ rows. rows.items) (listing_text c.args.table) (state g.S.Store c.args.conn.now) (state g.S.Store c.query_all.new.self) c.query_all.result (rw (c.listing.ensures) at (c.query_all.ensures.ok clean))

pub returns-clause-unrefused : goal.returns-clause-unrefused
returns-clause-unrefused g c clean has =
    unrefused_rows c.args.table (state g.S.Store c.args.conn.now) (state g.S.Store c.query_all.new.self) c.query_all.result has (rw (c.listing.ensures) at (c.query_all.ensures.err clean))

pub returns-clause-answered : goal.returns-clause-answered
returns-clause-answered g c clean =
    failed_read g.S.Store c.args.conn.now c.query_all.new.self c.args.table c.query_all.result (rw (c.listing.ensures) at (c.query_all.ensures.err clean))

pub returns-clause-shown : goal.returns-clause-shown
returns-clause-shown g c clean =
    shown_text (listing_text c.args.table) (state g.S.Store c.args.conn.now) (state g.S.Store c.query_all.new.self) c.query_all.result (plain_listing c.args.table _) (rw (c.listing.ensures) at (c.query_all.ensures.ok clean))
