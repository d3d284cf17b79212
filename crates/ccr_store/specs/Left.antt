-- What a call leaves that is refused or only reads.
use Rattle.std.specs.Prelude.{◌≡◌, IsTrue}
use Rattle.sqlite.specs.State.{State}

-- THE TABLES ARE AS THEY WERE: a connection that is open was open before, sees what it saw, and has committed nothing
-- since.
pub record IsAsItWas (old new : State) : Type 0 where
  pub was_open : IsTrue new.is_open → IsTrue old.is_open
  pub now : IsTrue new.is_open → new.now ≡ old.now
  pub committed : IsTrue new.is_open → new.committed ≡ old.committed
