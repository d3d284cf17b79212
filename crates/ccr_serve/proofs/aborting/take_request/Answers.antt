use Rattle.std.proofs.Common.{◌∙◌, ◌++◌, [], ◌∷◌, Bool, false, Ok, Err, ap, refl}
use Rattle.ccr_task.specs.Calls.{has}
use Rattle.ccr_serve.proofs.aborting.take_request.Goals as goal

pub returns-in-Ok-false : goal.returns-in-Ok-false
returns-in-Ok-false g c = (
  Ok false,
  Ok tt,
  c.in-Ok-false.ensures.called
      ∙ ap (λ (b : Bool). g.S.Shelf.calls c.args.shelf.now ++ has c.args.request.now (Ok b) ∷ []) c.in-Ok-false.field-0-test,
  refl,
)

pub returns-in-Err : goal.returns-in-Err
returns-in-Err g c = (Err c.in-Err.field-0, Ok tt, c.in-Err.ensures.called, refl)
