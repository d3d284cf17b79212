use Rattle.std.proofs.Common.{◌≡◌, [], List, false}
use Rattle.sqlite.specs.Order.{Row}
use Rattle.sqlite.specs.State.{HasCleanDisk, IsUnchanged, Survives, CommitsShowing}
use Rattle.sqlite.specs.Held.{state}
use Rattle.sqlite.specs.Given.{HasGiven}
use Rattle.ccr_tables.specs.Found.{Are}
use Rattle.ccr_tables.specs.NamedRows.{IsNamedRow}
use Rattle.ccr_tables.specs.Tables.{listing_text}
use Rattle.ccr_tables.proofs.named_row.select_named.Given as goal

abbrev pub invariant-rows : goal.invariant-rows
invariant-rows g l =
    let old = state g.S.Store l.fn.conn in
    let now = state g.S.Store l.rows.conn.now in
    (l.rows.conn.ghost_name ≡ l.initial.rows.conn.ghost_name) × Survives old now (CommitsShowing (listing_text l.fn.table) [] old)
    × (l.fn.conn.in_transaction ≡ false → l.rows.conn.now.in_transaction ≡ false)
    × (HasCleanDisk now → IsUnchanged old now × (given : List Row) × HasGiven g.S.Store (listing_text l.fn.table) [] l.rows.conn.now given × Are IsNamedRow given l.found)
