-- What wants are good for.
use Rattle.std.specs.Prelude.{◌≡◌, ◌≢◌, ◌⊎◌, ℕ, Option, Some, None, Err, slice_get}
use Rattle.ccr_history.specs.Text.{Text}
use Rattle.ccr_steps.specs.Asks.{AnswerData}
use Rattle.ccr_steps.specs.declared.ask.Ask.{Ask}
use Rattle.ccr_core.specs.declared.fault.CoreFault.{CoreFault}
use Rattle.ccr_core.specs.declared.fault.CoreFault.TheVariants.{TableFull, NoMemory}
use Rattle.ccr_core.specs.Events.{answer, abort}
use Rattle.ccr_core.specs.Holding.{CoreData, IsCore, TakesStep, Wants}

-- EACH BUILD THAT RUNS in a core wants something
abbrev pub EachWants : Type 0
EachWants =
    (c : CoreData) (k : ℕ) (n : Text × ℕ) (w : Option (ℕ × Ask))
    → IsCore c → slice_get c.names k ≡ Some n → Wants c n.0 n.1 w → w ≢ None

-- AN ANSWER to what a build wants, at its turn, is refused only where what it pushes has no place, or out of memory
abbrev pub WantedIsTaken : Type 0
WantedIsTaken =
    (c : CoreData) (job : Text) (number turn : ℕ) (ask : Ask) (x : AnswerData) (f : CoreFault)
    → IsCore c → Wants c job number (Some (turn, ask)) → TakesStep c c (answer job number turn x) (Err f)
    → (f ≡ TableFull) ⊎ (f ≡ NoMemory)

-- AN ABORT of a build that wants something is refused only out of memory
abbrev pub AbortIsTaken : Type 0
AbortIsTaken =
    (c : CoreData) (job : Text) (number turn : ℕ) (ask : Ask) (f : CoreFault)
    → IsCore c → Wants c job number (Some (turn, ask)) → TakesStep c c (abort job number) (Err f) → f ≡ NoMemory
