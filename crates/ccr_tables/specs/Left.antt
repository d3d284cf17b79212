-- What a call leaves that writes nothing.
use Rattle.std.specs.Prelude.{◌≡◌, ◌⊎◌, IsTrue, Result, OnOk}
use Rattle.sqlite.specs.State.{State, HasCleanDisk, IsUnchanged, Survives}

-- Nothing is committed, and nothing is written that stays: a connection that is open was open before, and sees what it
-- saw, or what was committed last.
pub record WritesNothing (old new : State) : Type 0 where
  pub was_open : IsTrue new.is_open → IsTrue old.is_open
  pub now : IsTrue new.is_open → (new.now ≡ old.now) ⊎ (new.now ≡ old.committed)
  pub committed : IsTrue new.is_open → new.committed ≡ old.committed

-- A READ: whatever comes of it, nothing is written, and a crash leaves nothing new; where it gives what it read,
-- nothing is changed.
pub record OnlyReads {X E : Type 0} (old new : State) (result : Result X E) : Type 0 where
  pub crash : Survives old new (λ _. ⊥)
  pub left : HasCleanDisk new → WritesNothing old new
  pub same : HasCleanDisk new → OnOk result (IsUnchanged old new)
