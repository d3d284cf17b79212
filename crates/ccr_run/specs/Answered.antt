-- What the program answers to its words.
use Rattle.std.specs.Prelude.{◌≡◌, ℕ, List, Bool, false, not, Option, Result, Ok, Err}
use Rattle.ccr_history.specs.Text.{Text}
use Rattle.ccr_history.specs.declared.storage.Storage as storage
use Rattle.ccr_process.specs.declared.runner.Runner as runner
use Rattle.ccr_task.specs.declared.shelf.Shelf as shelf
use Rattle.ccr_run.specs.Looked.{Looks}
use Rattle.ccr_run.specs.Obeyed.{Ending, IsTold, Obeyed}
use Rattle.ccr_run.specs.Served.{Coming}
use Rattle.ccr_run.specs.Statuses.{printed_status}
use Rattle.ccr_run.specs.declared.left.Left.{Left}
use Rattle.ccr_run.specs.declared.left.Tools.{Tools}
use Rattle.ccr_run.specs.declared.order.Misuse.{Misuse}

-- THE STATUS THAT THE PROGRAM ENDS WITH: that of what was done, and 4 where not all lines went out, whatever was done; or that of a misuse
abbrev pub EndsWith : Result ℕ Misuse → Bool → ℕ → Type 0
EndsWith (Ok done) is_printed status = status ≡ printed_status is_printed done
EndsWith (Err misuse) is_printed status = IsTold misuse status

module _ {R F T C : Type 0} (r : runner.Ghosts R) (s : shelf.Ghosts F) (t : storage.Ghosts T) (coming : Coming T C)
    (looks : Looks) (clock : Option Text) (words : List Text) (given : Tools R F) where
  -- THE ANSWER TO WORDS: this came of them, with what is left; the program ends with this status; and unless a write failed, standard output
  -- got all lines, and nothing else. `out` says of bytes that it grew by them
  pub record IsAnswer (ending : Ending) (kept : Left R F T C) (out : Text → Type 0) (status : ℕ) : Type 0 where
    pub obeyed : Obeyed r s t coming looks clock words given ending kept
    pub status_is : EndsWith ending.status (not ending.failed) status
    pub printed : ending.failed ≡ false → out ending.new
