use Rattle.sqlite_store.specs.Laws.{settled_at}
use Rattle.sqlite.specs.Files.{file_state}
use Rattle.ccr_look.proofs.Finding.{empty_found}
use Rattle.ccr_look.proofs.First.{killed_opening, killed_open}
use Rattle.ccr_look.proofs.Left.{clean_of}
use Rattle.ccr_look.proofs.law.a_first_run_leaves_nothing.Goals as goal

pub returns-clause-opening : goal.returns-clause-opening
returns-clause-opening g c = λ files now nothing fresh leaves image may. killed_opening files now nothing fresh leaves image may

pub returns-clause-opened : goal.returns-clause-opened
returns-clause-opened g c was nothing found clean up sound image left =
    let store = c.args.conn.now.store in
    killed_open store (file_state c.args.conn.now).committed.trees (clean_of _ clean) sound (λ db may. settled_at store g.met.D.Disk.seen_may_stay db up may)
    (empty_found was (file_state c.args.conn.now) found nothing) image left
