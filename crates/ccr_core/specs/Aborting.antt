-- What an abort of a build is.
use Rattle.std.specs.Prelude.{◌≡◌, ℕ, ◌↔◌, Some, None}
use Rattle.ccr_history.specs.Text.{Text}
use Rattle.ccr_steps.specs.Asks.{aborted}
use Rattle.ccr_steps.specs.Runs.{HasTurn}
use Rattle.ccr_core.specs.declared.fault.CoreFault.{CoreFault}
use Rattle.ccr_core.specs.declared.fault.CoreFault.TheVariants.{NoBuild}
use Rattle.ccr_core.specs.Events.{answer, abort}
use Rattle.ccr_core.specs.Faults.{Meets}
use Rattle.ccr_core.specs.Replies.{Replied}
use Rattle.ccr_core.specs.State.{RunningData, State, running_at}
use Rattle.ccr_core.specs.Steps.{Step}

-- AN ABORT of a build that runs is the answer, at its turn, that what it asks was aborted: both may be replied the same
-- and lead to the same states
abbrev pub AbortIsAnswer : Type 0
AbortIsAnswer =
    (s after : State) (job : Text) (number turn : ℕ) (b : RunningData) (r : Replied)
    → running_at job number s.running ≡ Some b → HasTurn b.exchanges turn
    → (Step s (abort job number) r after ↔ Step s (answer job number turn aborted) r after)

-- IT MEETS one fault, where no such build runs
abbrev pub AbortMeetsNoBuild : Type 0
AbortMeetsNoBuild =
    (s : State) (job : Text) (number : ℕ) (f : CoreFault)
    → (Meets s (abort job number) f ↔ ((f ≡ NoBuild) × (running_at job number s.running ≡ None)))
