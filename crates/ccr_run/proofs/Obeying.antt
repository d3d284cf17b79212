-- What words come to, from what its parts say.
use Rattle.std.proofs.Common.{◌≡◌, inl, inr, refl, ap, ℕ, List, [], Bool, true, not, Option, Some, Result, Ok, Err}
use Rattle.ccr_history.specs.Text.{Text}
use Rattle.ccr_history.specs.declared.storage.Storage as storage
use Rattle.ccr_process.specs.declared.runner.Runner as runner
use Rattle.ccr_task.specs.declared.shelf.Shelf as shelf
use Rattle.ccr_core.specs.declared.command.Command.TheVariants.{Show}
use Rattle.ccr_serve.specs.declared.fault.ServeFault.{ServeFault}
use Rattle.ccr_run.specs.declared.abort.AbortFault.{AbortFault}
use Rattle.ccr_run.specs.declared.left.Left.{Left}
use Rattle.ccr_run.specs.declared.left.Left.TheVariants.{Unopened}
use Rattle.ccr_run.specs.declared.left.Tools.{Tools}
use Rattle.ccr_run.specs.declared.order.AbortOrder.{AbortOrder}
use Rattle.ccr_run.specs.declared.order.LookOrder.{LookOrder}
use Rattle.ccr_run.specs.declared.order.Misuse.{Misuse}
use Rattle.ccr_run.specs.declared.order.Order.{Order}
use Rattle.ccr_run.specs.declared.order.PageOrder.{PageOrder}
use Rattle.ccr_run.specs.declared.run.Outcome.{Outcome}
use Rattle.ccr_run.specs.Asked.{AskedData}
use Rattle.ccr_run.specs.Aborting.{Asks, IsPrinted, abort_status, told_of}
use Rattle.ccr_run.specs.Explained.{ToldData, IsToldOf, explained, nothing_told}
use Rattle.ccr_run.specs.Found.{ValidationData, Validates, is_validation, validated_status, validation_in}
use Rattle.ccr_run.specs.Left.{text_left}
use Rattle.ccr_run.specs.Looked.{Looks, ShownOf}
use Rattle.ccr_run.specs.Obeyed.{Ending, Obeyed, validation_told}
use Rattle.ccr_run.specs.Orders.{IsOrdered, IsLookOrdered, IsPageOrdered, IsAbortOrdered, IsMisused}
use Rattle.ccr_run.specs.Paged.{PagedOf, overview_options, page_told}
use Rattle.ccr_run.specs.Served.{Coming, Served}
use Rattle.ccr_run.specs.Statuses.{exit_status_of, printed_status}

-- how words end that come to a status
abbrev ending : List AskedData → Text → Text → List Text → List Text → Bool → ToldData → Result ℕ Misuse → Ending
ending asked old new old_notes new_notes failed told status = record {
  asked = asked;
  old = old;
  new = new;
  old_notes = old_notes;
  new_notes = new_notes;
  failed = failed;
  told = told;
  status = status;
}

module _ {R F T C : Type 0} (r : runner.Ghosts R) (s : shelf.Ghosts F) (t : storage.Ghosts T) (coming : Coming T C)
    (looks : Looks) (clock : Option Text) (words : List Text) (given : Tools R F)
    (asked : List AskedData) (old new : Text) (old_notes new_notes : List Text) (failed : Bool) (told : ToldData) where
  -- a command was done
  pub done : (order : Order) (kept : Left R F T C) (status : ℕ) → IsOrdered words order
      → (outcome : Outcome) × Served r s t coming order asked given outcome.end kept old new × (outcome.is_printed ≡ not failed)
      × IsToldOf order outcome (text_left kept) told × (status ≡ exit_status_of outcome)
      → Obeyed r s t coming looks clock words given (ending asked old new old_notes new_notes failed told (Ok status)) kept
  done order kept status ordered it = inl (record {
    order = order;
    ordered = ordered;
    outcome = it.0;
    served = it.1;
    printed = it.2;
    told = it.3;
    status_is = ap Ok it.4;
  })

  -- a build was asked to be aborted
  pub aborted : (order : AbortOrder) (tools : Tools R F) (status : ℕ) → IsAbortOrdered words order → asked ≡ [] → new_notes ≡ old_notes
      → (end : Result Bool AbortFault) × Asks order (s.calls given.shelf) end (s.calls tools.shelf) × IsPrinted order end old new
      × (told ≡ told_of order end (not failed)) × (status ≡ printed_status (not failed) (abort_status end)) → tools.runner ≡ given.runner
      → Obeyed r s t coming looks clock words given (ending asked old new old_notes new_notes failed told (Ok status)) (Unopened tools)
  aborted order tools status ordered unasked quiet it idle = inr (inl (record {
    order = order;
    ordered = ordered;
    end = it.0;
    tools = tools;
    left = refl;
    idle = idle;
    asks = it.1;
    unasked = unasked;
    quiet = quiet;
    printed = it.2;
    told = it.3;
    status_is = ap Ok it.4;
  }))

  -- something was looked at
  pub looked : (order : LookOrder) (status : ℕ) → IsLookOrdered words order → new_notes ≡ old_notes → (outcome : Outcome)
      → looks order.options (ShownOf order) asked outcome.end old new → outcome.is_printed ≡ not failed
      → told ≡ explained (record { options = order.options; command = Show order.what }) outcome → status ≡ exit_status_of outcome
      → Obeyed r s t coming looks clock words given (ending asked old new old_notes new_notes failed told (Ok status)) (Unopened given)
  looked order status ordered quiet outcome shown printed explains is = inr (inr (inl (record {
    order = order;
    ordered = ordered;
    outcome = outcome;
    looked = shown;
    left = refl;
    quiet = quiet;
    printed = printed;
    told = explains;
    status_is = ap Ok is;
  })))

  -- a page was made
  pub paged : (order : PageOrder) (status : ℕ) → IsPageOrdered words order → new_notes ≡ old_notes → (outcome : Outcome)
      → looks order.options (PagedOf (overview_options order clock)) asked outcome.end old new → outcome.is_printed ≡ not failed
      → told ≡ page_told order outcome → status ≡ exit_status_of outcome
      → Obeyed r s t coming looks clock words given (ending asked old new old_notes new_notes failed told (Ok status)) (Unopened given)
  paged order status ordered quiet outcome made printed tells is = inr (inr (inr (inl (record {
    order = order;
    ordered = ordered;
    outcome = outcome;
    paged = made;
    left = refl;
    quiet = quiet;
    printed = printed;
    told = tells;
    status_is = ap Ok is;
  }))))

  -- a pipeline's file was validated
  pub validated : (validation : ValidationData) (tools : Tools R F) (status : ℕ) → is_validation words ≡ true
      → validation_in words ≡ Some validation → asked ≡ [] → new_notes ≡ old_notes
      → (end : Result Bool ServeFault) × Validates validation end (s.calls given.shelf) (s.calls tools.shelf) old new
      × (told ≡ validation_told validation.path end) × (status ≡ validated_status end (not failed))
      → tools.runner ≡ given.runner
      → Obeyed r s t coming looks clock words given (ending asked old new old_notes new_notes failed told (Ok status)) (Unopened tools)
  validated validation tools status named ordered unasked quiet it idle = inr (inr (inr (inr (inl (record {
    validation = validation;
    named = named;
    ordered = ordered;
    end = it.0;
    tools = tools;
    left = refl;
    idle = idle;
    validates = it.1;
    unasked = unasked;
    quiet = quiet;
    told = it.2;
    status_is = ap Ok it.3;
  })))))

  -- nothing was done
  pub misused : (misuse : Misuse) → IsMisused words misuse → asked ≡ [] → new ≡ old → new_notes ≡ old_notes → told ≡ nothing_told
      → Obeyed r s t coming looks clock words given (ending asked old new old_notes new_notes failed told (Err misuse)) (Unopened given)
  misused misuse why unasked unprinted quiet untold = inr (inr (inr (inr (inr (record {
    misuse = misuse;
    misused = why;
    left = refl;
    unasked = unasked;
    unprinted = unprinted;
    quiet = quiet;
    told = untold;
    status_is = refl;
  })))))
