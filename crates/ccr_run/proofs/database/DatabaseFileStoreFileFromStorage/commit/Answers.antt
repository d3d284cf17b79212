use Rattle.sqlite_wal.specs.Files.{image_at}
use Rattle.sqlite.specs.Files.{over_files}
use Rattle.ccr_history.specs.Edits.{change_data}
use Rattle.ccr_history.specs.Changes.{changed}
use Rattle.ccr_store.specs.StoreData.{IsKept}
use Rattle.ccr_look.specs.Holding.{AreOurs}
use Rattle.ccr_run.proofs.Premises.{on_ok_under, on_err_under}
use Rattle.ccr_run.proofs.database.DatabaseFileStoreFileFromStorage.commit.Goals as goal

pub returns-clause-done : goal.returns-clause-done
returns-clause-done g c h kept accepts =
    on_ok_under (AreOurs (image_at g.S.Start))
    (IsKept over_files c.commit-answer.new.self (changed (change_data c.args.change.now) h)) c.commit-answer.result
    (λ ours. c.commit-answer.ensures.done h (kept ours) accepts)

pub returns-clause-refused : goal.returns-clause-refused
returns-clause-refused g c h kept =
    on_err_under (AreOurs (image_at g.S.Start)) (IsKept over_files c.commit-answer.new.self h) c.commit-answer.result
    (λ ours. c.commit-answer.ensures.refused h (kept ours))

pub returns-clause-crash : goal.returns-clause-crash
returns-clause-crash g c h rules kept before accepts ours =
    c.commit-answer.ensures.crash h rules (kept ours) (before ours) accepts
