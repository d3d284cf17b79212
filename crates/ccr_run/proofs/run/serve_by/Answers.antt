use Rattle.std.proofs.Common.{◌++◌}
use Rattle.ccr_run.proofs.Serving.{did}
use Rattle.ccr_run.proofs.run.serve_by.Goals as goal

pub returns-clause-did : goal.returns-clause-did
returns-clause-did g c =
    let came = c.command-end.ensures.came in
    did g.R.Runner g.F.Shelf g.T.Storage c.args.order.now c.args.server c.command-end.new.server
    came.0 c.command-end.result (c.args.out.now.shown ++ c.args.out.now.waiting) (c.command-end.new.out.shown ++ c.command-end.new.out.waiting)
    c.requires.places came.2 came.1 c.command-end.ensures.stands
