use Rattle.ccr_tables.specs.NamedRows.{IsNamedRow}
use Rattle.ccr_tables.proofs.FoundRows.{still_none, none_now}
use Rattle.ccr_tables.proofs.named_row.with_row.Goals as goal

pub returns-in_default-clause-are : goal.returns-in_default-clause-are
returns-in_default-clause-are c rows are = still_none IsNamedRow c.args.found rows c.args.row.now c.in_default.not-Some are

pub returns-in_default-2-clause-are : goal.returns-in_default-2-clause-are
returns-in_default-2-clause-are c rows are = none_now IsNamedRow c.in_ok-named.field-0 rows c.args.row.now c.in_default-2.not-Some c.in_ok-named.ensures.none
