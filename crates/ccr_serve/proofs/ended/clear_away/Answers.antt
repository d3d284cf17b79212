use Rattle.std.proofs.Common.{sym, subst}
use Rattle.ccr_serve.specs.Aborts.{Clears}
use Rattle.ccr_serve.proofs.Folders.{cleared}
use Rattle.ccr_serve.proofs.ended.clear_away.Goals as goal

pub returns-in-Ends : goal.returns-in-Ends
returns-in-Ends g c places job number are =
    subst (λ r. Clears places job number r (g.S.Shelf.calls c.args.shelf.now) (g.S.Shelf.calls c.take_request.new.shelf))
    (sym c.in-Ends.is)
    (cleared places job number c.in-Ends.field-0 c.args.left.now c.as_str-build.result.now c.as_str-request.result.now
    (g.S.Shelf.calls c.args.shelf.now) (g.S.Shelf.calls c.remove_folder.new.self)
    (g.S.Shelf.calls c.take_request.new.shelf) c.remove_folder.result c.take_request.result are c.as_str-build.ensures.value
    c.as_str-request.ensures.value c.remove_folder.ensures.called c.take_request.ensures)
