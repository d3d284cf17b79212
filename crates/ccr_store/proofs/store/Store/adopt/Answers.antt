use Rattle.std.proofs.Common.{sym, ap, Err}
use Rattle.sqlite.specs.Held.{state}
use Rattle.ccr_store.specs.Causes.{IsLetGo}
use Rattle.ccr_store.proofs.ReadFaults.{err_so}
use Rattle.ccr_store.proofs.RaisedRows.{stored_in}
use Rattle.ccr_store.specs.Rows.{rows_in}
use Rattle.ccr_history.proofs.ChangeLaws.{none_is_history}
use Rattle.ccr_store.proofs.store.Store.adopt.Goals as goal

pub returns-clause-made : goal.returns-clause-made
returns-clause-made g c = λ clean blank.
    let made = c.in_ok-prepare.ensures.made clean blank in
    (record { rules = none_is_history; rows = made.0 }, made.1)

pub returns-clause-kept : goal.returns-clause-kept
returns-clause-kept g c = λ blank clean up.
    let made = c.in_ok-prepare.ensures.made clean blank in
    (sym made.1, none_is_history, made.0)

pub returns-clause-found : goal.returns-clause-found
returns-clause-found g c = λ format h rules fits clean holds. stored_in format h _ rules (c.in_ok-prepare.ensures.found (rows_in format h) clean holds)

pub returns-clause-taken : goal.returns-clause-taken
returns-clause-taken g c = λ clean other. c.in_ok-prepare.ensures.taken clean other

pub returns-in_err-prepare-clause-answered : goal.returns-in_err-prepare-clause-answered
returns-in_err-prepare-clause-answered g c =
    err_so c.from_residual.result (IsLetGo g.S.Store (state g.S.Store c.args.conn)) _ c.from_residual.ensures.1
    (record {
      end = c.prepare.new.conn;
      cause = λ clean. c.in_err-prepare.ensures.answered clean;
      left = λ clean. c.in_err-prepare.ensures.left clean;
      crash = c.in_err-prepare.ensures.crash;
      not_ours = λ ours. c.in_err-prepare.ensures.not_ours (ap Err ours);
    })
