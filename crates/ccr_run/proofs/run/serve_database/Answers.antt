use Rattle.std.proofs.Common.{◌++◌, ◌∷◌, [], None, refl}
use Rattle.sqlite_wal.specs.Files.{image_at}
use Rattle.ccr_run.specs.Asked.{opened}
use Rattle.ccr_run.specs.Databases.{from_conn, from_history}
use Rattle.ccr_run.proofs.Serving.{served_for, unserved}
use Rattle.ccr_run.proofs.run.serve_database.Goals as goal

pub returns-in-Ok-clause-served : goal.returns-in-Ok-clause-served
returns-in-Ok-clause-served g c =
    served_for g.R.Runner g.F.Shelf _ (from_history (image_at g.S.Start)) (from_conn (image_at g.S.Start) c.args.conn)
    (λ database history begun. begun) (λ error never. absurd never) (λ fault conn never. absurd never)
    c.args.order.now (opened c.args.order.now.options.database.now None ∷ []) c.args.tools c.serve_history.result.0 c.serve_history.result.1
    (c.args.out.now.shown ++ c.args.out.now.waiting) (c.serve_history.new.out.shown ++ c.serve_history.new.out.waiting)
    c.serve_history.ensures.served

pub returns-in-Err-clause-served : goal.returns-in-Err-clause-served
returns-in-Err-clause-served g c = (
  refl,
  unserved _ c.args.tools c.args.tools c.from.result (c.args.out.now.shown ++ c.args.out.now.waiting)
      (c.args.out.now.shown ++ c.args.out.now.waiting) (c.in-Err.field-0.fault, c.in-Err.ensures.unfound, c.from.ensures) refl refl,
)
