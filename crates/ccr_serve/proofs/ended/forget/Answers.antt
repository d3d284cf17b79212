use Rattle.ccr_serve.proofs.Folders.{forgotten}
use Rattle.ccr_serve.proofs.ended.forget.Goals as goal

pub returns-in-Some : goal.returns-in-Some
returns-in-Some g c places job known =
    forgotten places job c.args.number c.in-Some.field-0 c.args.request.now c.take_request.result
    (g.S.Shelf.calls c.args.shelf.now) (g.S.Shelf.calls c.take_request.new.shelf) c.in-Some.is known c.take_request.ensures
