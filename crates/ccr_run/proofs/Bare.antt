-- Why no history is found, from what the parts of a load say.
use Rattle.std.proofs.Common.{◌≡◌, Result, Ok, Err, IfOk, IfErr, inr}
use Rattle.sqlite_trees.specs.declared.store.Store.{Ghosts}
use Rattle.sqlite_wal.specs.Recovery.{Image}
use Rattle.sqlite.specs.Held.{Held, state}
use Rattle.sqlite.specs.Start.{FindsIn}
use Rattle.sqlite.specs.State.{HasCleanDisk}
use Rattle.ccr_look.specs.Unfound.{IsAtRest, WasTaken}
use Rattle.ccr_run.specs.declared.database.Unloaded.{Unloaded}
use Rattle.ccr_run.specs.Databases.{HasNone, IsLeftUnread}

-- what follows of two facts of what a call gave
pub if_ok_both : {A E : Type 0} (r : Result A E) (P Q W : A → Type 0) → ((a : A) → P a → Q a → W a) → IfOk r P → IfOk r Q → IfOk r W
if_ok_both (Ok a) P Q W so p q = so a p q
if_ok_both (Err e) P Q W so p q = tt

-- the database was taken, and no history is loaded
pub bare_later : {X S : Type 0} (g : Ghosts S) (image : Image) (conn taken : Held S) (r : Result X (Unloaded (Held S)))
    → (HasCleanDisk (state g conn) → IsAtRest (state g conn)) → (HasCleanDisk (state g conn) → FindsIn image (state g conn))
    → WasTaken (state g conn) (state g taken) → IfErr r (λ it. IsLeftUnread g (state g taken) it.fault it.conn)
    → IfErr r (λ it. HasNone g image conn it.fault it.conn)
bare_later g image conn taken (Ok x) opened found was unread = tt
bare_later g image conn taken (Err it) opened found was unread =
    record { opened = opened; found = found; cause = inr (taken, was, unread) }
