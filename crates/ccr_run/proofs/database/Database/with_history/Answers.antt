use Rattle.std.proofs.Common.{sym}
use Rattle.ccr_run.proofs.database.Database.with_history.Goals as goal

pub returns-in-Err-clause-unread : goal.returns-in-Err-clause-unread
returns-in-Err-clause-unread g c = (
  record {
    end = c.load.new.self.conn;
    cause = λ clean. c.in-Err.ensures.answered clean;
    left = λ clean. c.in-Err.ensures.left clean;
    crash = c.in-Err.ensures.crash;
  },
  sym c.into_connection.ensures.same,
)
