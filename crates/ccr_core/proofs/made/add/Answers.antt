use Rattle.ccr_history.specs.Changes.{build}
use Rattle.ccr_history.proofs.ChangeLaws.{kept}
use Rattle.std.proofs.Common.{sym, subst}
use Rattle.ccr_history.specs.History.{IsHistory}
use Rattle.ccr_core.proofs.Indexing.{newest_made}
use Rattle.ccr_core.proofs.Making.{new_runs, new_row}
use Rattle.ccr_core.proofs.made.add.Goals as goal

pub returns-in-Ok-clause-running : goal.returns-in-Ok-clause-running
returns-in-Ok-clause-running c = new_runs c.args.history.now c.make.new.history c.args.job.now c.args.used.now c.rules.ensures c.in-Ok.ensures.ok

pub returns-in-Ok-clause-row : goal.returns-in-Ok-clause-row
returns-in-Ok-clause-row c = new_row c.args.history.now c.make.new.history c.args.job.now c.args.used.now c.rules.ensures c.in-Ok.ensures.ok

pub returns-in-Ok-clause-newest : goal.returns-in-Ok-clause-newest
returns-in-Ok-clause-newest c =
    let rules = kept (build c.args.job.now c.args.used.now) c.args.history.now c.rules.ensures (c.requires.room, c.requires.used) in
    newest_made c.args.history.now c.make.new.history c.args.job.now c.args.used.now (subst IsHistory (sym c.in-Ok.ensures.ok) rules) c.in-Ok.ensures.ok
