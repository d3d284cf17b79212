use Rattle.std.proofs.Common.{ap, refl, Err}
use Rattle.ccr_store.proofs.RaisedRows.{stored_in}
use Rattle.ccr_store.specs.Rows.{rows_in}
use Rattle.ccr_history.proofs.ChangeLaws.{none_is_history}
use Rattle.ccr_run.proofs.database.take.Goals as goal

pub returns-in-Ok-clause-made : goal.returns-in-Ok-clause-made
returns-in-Ok-clause-made g c = rw c.over.ensures (λ clean blank.
    let made = c.in-Ok.ensures.made clean blank in
    (record { rules = none_is_history; rows = made.0 }, made.1))

pub returns-in-Ok-clause-found : goal.returns-in-Ok-clause-found
returns-in-Ok-clause-found g c = rw c.over.ensures (λ format h rules fits clean holds.
    stored_in format h _ rules (c.in-Ok.ensures.found (rows_in format h) clean holds))

pub returns-in-Ok-clause-taken : goal.returns-in-Ok-clause-taken
returns-in-Ok-clause-taken g c = rw c.over.ensures (λ clean other. c.in-Ok.ensures.taken clean other)

pub returns-in-Ok-clause-crash : goal.returns-in-Ok-clause-crash
returns-in-Ok-clause-crash g c = rw c.over.ensures c.in-Ok.ensures.crash

pub returns-in-Err-clause-untaken : goal.returns-in-Err-clause-untaken
returns-in-Err-clause-untaken g c = (
  record {
    end = c.prepare.new.conn;
    cause = λ clean. c.in-Err.ensures.answered clean;
    left = λ clean. c.in-Err.ensures.left clean;
    crash = c.in-Err.ensures.crash;
    not_ours = λ ours. c.in-Err.ensures.not_ours (ap Err ours);
  },
  refl,
)
