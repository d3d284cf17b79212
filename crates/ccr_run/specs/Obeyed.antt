-- What words come to.
use Rattle.std.specs.Prelude.{◌≡◌, ◌⊎◌, ℕ, List, [], Bool, true, not, Option, Some, Result, Ok, Err}
use Rattle.ccr_history.specs.Text.{Text}
use Rattle.ccr_history.specs.declared.storage.Storage as storage
use Rattle.ccr_process.specs.declared.runner.Runner as runner
use Rattle.ccr_task.specs.declared.shelf.Shelf as shelf
use Rattle.ccr_serve.specs.declared.fault.ServeFault.{ServeFault}
use Rattle.ccr_core.specs.declared.command.Command.TheVariants.{Show}
use Rattle.ccr_run.specs.declared.abort.AbortFault.{AbortFault}
use Rattle.ccr_run.specs.declared.left.Left.{Left}
use Rattle.ccr_run.specs.declared.left.Left.TheVariants.{Unopened}
use Rattle.ccr_run.specs.declared.left.Tools.{Tools}
use Rattle.ccr_run.specs.declared.order.AbortOrder.{AbortOrder}
use Rattle.ccr_run.specs.declared.order.LookOrder.{LookOrder}
use Rattle.ccr_run.specs.declared.order.Misuse.{Misuse}
use Rattle.ccr_run.specs.declared.order.Order.{Order}
use Rattle.ccr_run.specs.declared.order.PageOrder.{PageOrder}
use Rattle.ccr_run.specs.declared.run.Outcome.{Outcome}
use Rattle.ccr_run.specs.Asked.{AskedData}
use Rattle.ccr_run.specs.Aborting.{Asks, IsPrinted, abort_status, told_of}
use Rattle.ccr_run.specs.Explained.{ToldData, IsToldOf, explained, nothing_told}
use Rattle.ccr_run.specs.Found.{ValidationData, Validates, hint_in, is_validation, refusal_in, validated_status, validation_in}
use Rattle.ccr_run.specs.Left.{text_left}
use Rattle.ccr_run.specs.Looked.{Looks, ShownOf}
use Rattle.ccr_run.specs.Orders.{IsOrdered, IsLookOrdered, IsPageOrdered, IsAbortOrdered, IsMisused}
use Rattle.ccr_run.specs.Paged.{PagedOf, overview_options, page_told}
use Rattle.ccr_run.specs.Served.{Coming, Served}
use Rattle.ccr_run.specs.Statuses.{exit_status_of, printed_status, misuse_status}

-- a misuse has its status, or 4 where it can't be told
abbrev pub IsTold : Misuse → ℕ → Type 0
IsTold misuse status = (status ≡ misuse_status misuse) ⊎ (status ≡ 4)

-- what words come to: what was asked of the database's files, what was printed before and after, and what was told beside it as the
-- command went on, whether a write failed, what is told on standard error as it ends, and the status, or why the words order nothing
pub record Ending : Type 0 where
  pub asked : List AskedData
  pub old : Text
  pub new : Text
  pub old_notes : List Text
  pub new_notes : List Text
  pub failed : Bool
  pub told : ToldData
  pub status : Result ℕ Misuse

-- what is told of a validation of the file at a path: its refusal, and what to do
abbrev pub validation_told : Text → Result Bool ServeFault → ToldData
validation_told path end = record nothing_told { refusal = refusal_in end; hint = hint_in path end }

module _ {R F T C : Type 0} (r : runner.Ghosts R) (s : shelf.Ghosts F) (t : storage.Ghosts T) (coming : Coming T C)
    (looks : Looks) (clock : Option Text) (words : List Text) (given : Tools R F) where
  -- the words order a command, and this came of it
  pub record IsDone (ending : Ending) (kept : Left R F T C) : Type 0 where
    pub order : Order
    pub ordered : IsOrdered words order
    pub outcome : Outcome
    pub served : Served r s t coming order ending.asked given outcome.end kept ending.old ending.new
    pub printed : outcome.is_printed ≡ not ending.failed
    pub told : IsToldOf order outcome (text_left kept) ending.told
    pub status_is : ending.status ≡ Ok (exit_status_of outcome)

  -- the words ask for a build to be aborted: the shelf had the two calls that look for it and ask for it, no program was started, nothing was asked of the
  -- database's files, and nothing was told beside the lines
  pub record IsAbort (ending : Ending) (kept : Left R F T C) : Type 0 where
    pub order : AbortOrder
    pub ordered : IsAbortOrdered words order
    pub end : Result Bool AbortFault
    pub tools : Tools R F
    pub left : kept ≡ Unopened tools
    pub idle : tools.runner ≡ given.runner
    pub asks : Asks order (s.calls given.shelf) end (s.calls tools.shelf)
    pub unasked : ending.asked ≡ []
    pub quiet : ending.new_notes ≡ ending.old_notes
    pub printed : IsPrinted order end ending.old ending.new
    pub told : ending.told ≡ told_of order end (not ending.failed)
    pub status_is : ending.status ≡ Ok (printed_status (not ending.failed) (abort_status end))

  -- the words order a look: no program was started, the shelf wasn't called, and nothing was told beside the lines
  pub record IsLooked (ending : Ending) (kept : Left R F T C) : Type 0 where
    pub order : LookOrder
    pub ordered : IsLookOrdered words order
    pub outcome : Outcome
    pub looked : looks order.options (ShownOf order) ending.asked outcome.end ending.old ending.new
    pub left : kept ≡ Unopened given
    pub quiet : ending.new_notes ≡ ending.old_notes
    pub printed : outcome.is_printed ≡ not ending.failed
    pub told : ending.told ≡ explained (record { options = order.options; command = Show order.what }) outcome
    pub status_is : ending.status ≡ Ok (exit_status_of outcome)

  -- the words order a page: no program was started, the shelf wasn't called, and nothing was told beside it
  pub record IsPaged (ending : Ending) (kept : Left R F T C) : Type 0 where
    pub order : PageOrder
    pub ordered : IsPageOrdered words order
    pub outcome : Outcome
    pub paged : looks order.options (PagedOf (overview_options order clock)) ending.asked outcome.end ending.old ending.new
    pub left : kept ≡ Unopened given
    pub quiet : ending.new_notes ≡ ending.old_notes
    pub printed : outcome.is_printed ≡ not ending.failed
    pub told : ending.told ≡ page_told order outcome
    pub status_is : ending.status ≡ Ok (exit_status_of outcome)

  -- the words order a pipeline's file to be validated: it was read, which was the one call of the shelf; no program was started, nothing
  -- was asked of the database's files, and nothing was told beside the lines
  pub record IsValidated (ending : Ending) (kept : Left R F T C) : Type 0 where
    pub validation : ValidationData
    pub named : is_validation words ≡ true
    pub ordered : validation_in words ≡ Some validation
    pub end : Result Bool ServeFault
    pub tools : Tools R F
    pub left : kept ≡ Unopened tools
    pub idle : tools.runner ≡ given.runner
    pub validates : Validates validation end (s.calls given.shelf) (s.calls tools.shelf) ending.old ending.new
    pub unasked : ending.asked ≡ []
    pub quiet : ending.new_notes ≡ ending.old_notes
    pub told : ending.told ≡ validation_told validation.path end
    pub status_is : ending.status ≡ Ok (validated_status end (not ending.failed))

  -- the words order nothing: nothing was done
  pub record IsMisuse (ending : Ending) (kept : Left R F T C) : Type 0 where
    pub misuse : Misuse
    pub misused : IsMisused words misuse
    pub left : kept ≡ Unopened given
    pub unasked : ending.asked ≡ []
    pub unprinted : ending.new ≡ ending.old
    pub quiet : ending.new_notes ≡ ending.old_notes
    pub told : ending.told ≡ nothing_told
    pub status_is : ending.status ≡ Err misuse

  -- WHAT WORDS COME TO, with what was given and with what is left: the command, the look, the page, the abort or the validation
  -- that they order, or why they order nothing
  abbrev pub Obeyed : Ending → Left R F T C → Type 0
  Obeyed ending kept =
      IsDone ending kept ⊎ (IsAbort ending kept ⊎ (IsLooked ending kept ⊎ (IsPaged ending kept
      ⊎ (IsValidated ending kept ⊎ IsMisuse ending kept))))
