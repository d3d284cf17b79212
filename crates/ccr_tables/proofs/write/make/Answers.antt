use Rattle.std.proofs.Common.{rules}
use Rattle.sqlite.specs.Held.{state}
use Rattle.ccr_tables.specs.Answered.{text_of, params_of}
use Rattle.ccr_tables.specs.Written.{written}
use Rattle.ccr_tables.proofs.Inserts.{alters}
use Rattle.ccr_tables.proofs.Unnumbered.{without_number}
use Rattle.ccr_tables.proofs.Writes.{writes}
use Rattle.ccr_tables.proofs.Sound.{sound_writes}
use Rattle.ccr_tables.proofs.write.make.Goals as goal

pub returns-clause-step : goal.returns-clause-step
returns-clause-step g c clean inside =
    let w = c.args.write.now in
    let old = state g.S.Store c.args.tx.now.conn.now in
    let new = state g.S.Store c.execute.new.self.conn.now in
    without_number {n = c.in_ok-execute.field-0} (search rules)
    (alters (text_of w) (params_of w) (written w) old new c.execute.result (λ count these has ran. (writes w old new count these has ran, sound_writes w old new count has.schema ran))
    (rw (c.statement.ensures, c.requires) at (c.execute.ensures.runs clean inside)))
