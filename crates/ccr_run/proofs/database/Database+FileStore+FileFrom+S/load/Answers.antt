use Rattle.std.proofs.Common.{sym, inl}
use Rattle.std.proofs.lemmas.Result.{IfOk-weaker}
use Rattle.sqlite_wal.specs.Files.{image_at}
use Rattle.ccr_store.specs.Rows.{rows_of}
use Rattle.sqlite.specs.Files.{over_files}
use Rattle.ccr_look.proofs.Adopted.{adopted}
use Rattle.ccr_run.proofs.Bare.{bare_later, if_ok_both}
use Rattle.ccr_run.proofs.database.Database+FileStore+FileFrom+S.load.Goals as goal

pub returns-in-Ok-clause-holds : goal.returns-in-Ok-clause-holds
returns-in-Ok-clause-holds g c =
    IfOk-weaker c.with_history.result _ _
    (λ loaded it ours clean.
    it.0 (rows_of ours.0) (adopted (image_at g.S.Start) c.args.conn c.in-Ok.store c.requires.opened c.requires.found c.in-Ok.ensures.made
    c.in-Ok.ensures.found c.in-Ok.ensures.crash.clean (it.2 clean) ours.0 ours.1).rows clean)
    c.with_history.ensures.kept

pub returns-in-Ok-clause-leaves : goal.returns-in-Ok-clause-leaves
returns-in-Ok-clause-leaves g c =
    IfOk-weaker c.with_history.result _ _
    (λ loaded it ours clean.
    it.3 (rows_of ours.0) (adopted (image_at g.S.Start) c.args.conn c.in-Ok.store c.requires.opened c.requires.found c.in-Ok.ensures.made
    c.in-Ok.ensures.found c.in-Ok.ensures.crash.clean (it.2 clean) ours.0 ours.1).rows clean)
    c.with_history.ensures.kept

pub returns-in-Ok-clause-begins : goal.returns-in-Ok-clause-begins
returns-in-Ok-clause-begins g c =
    if_ok_both c.with_history.result _ _ _
    (λ loaded it uncounted. record {
      held = λ clean h held.
          let stored = adopted (image_at g.S.Start) c.args.conn c.in-Ok.store c.requires.opened c.requires.found c.in-Ok.ensures.made
          c.in-Ok.ensures.found c.in-Ok.ensures.crash.clean (it.2 clean) h held in
          sym (it.1 h clean stored.rules stored.rows);
      uncounted = uncounted;
    })
    c.with_history.ensures.kept c.with_history.ensures.uncounted

pub returns-in-Ok-clause-unfound : goal.returns-in-Ok-clause-unfound
returns-in-Ok-clause-unfound g c =
    bare_later over_files (image_at g.S.Start) c.args.conn c.in-Ok.store.conn c.with_history.result c.requires.opened c.requires.found
    (record { made = λ clean blank. (c.in-Ok.ensures.made clean blank).0.rows; taken = λ clean other. c.in-Ok.ensures.taken clean other })
    c.with_history.ensures.unread

pub returns-in-Err-clause-unfound : goal.returns-in-Err-clause-unfound
returns-in-Err-clause-unfound g c =
    record { opened = c.requires.opened; found = c.requires.found; cause = inl c.in-Err.ensures.untaken }
