use Rattle.std.proofs.Common.{◌∷◌, ◌++◌, [], None, Some, inl, inr, refl}
use Rattle.sqlite_std_file.specs.File.{IsFresh}
use Rattle.sqlite_wal.specs.Files.{image_at}
use Rattle.ccr_run.specs.Asked.{opened}
use Rattle.ccr_run.specs.Databases.{from_conn, from_files}
use Rattle.ccr_run.proofs.Serving.{asked_alone, same_places, served_as, served_for, unserved}
use Rattle.ccr_run.specs.declared.failure.Failure.TheVariants.{Refused}
use Rattle.ccr_serve.specs.declared.fault.ServeFault.TheVariants.{NoMemory}
use Rattle.ccr_run.proofs.run.serve.Goals as goal

pub serve_database-requires-clause-places : goal.serve_database-requires-clause-places
serve_database-requires-clause-places g c = same_places c.args.order.now c.in-Ok.places c.in-Ok.ensures.types c.in-Ok.ensures.work c.in-Ok.ensures.launcher

pub returns-in-Ok-open-clause-served : goal.returns-in-Ok-open-clause-served
returns-in-Ok-open-clause-served g c =
    let coming = from_files (image_at g.S.Start) (λ is_log file. IsFresh is_log file) c.open.new.self.answer in
    let named = opened c.args.order.now.options.database.now None ∷ [] in
    served_as g.R.Runner g.F.Shelf _ coming c.args.order.now (g.O.Opens.asked c.open.new.self.files) named
    c.args.tools c.serve_database.result.0 c.serve_database.result.1 (c.args.out.now.shown ++ c.args.out.now.waiting)
    (c.serve_database.new.out.shown ++ c.serve_database.new.out.waiting)
    (asked_alone _ _ (opened c.args.order.now.options.database.now None) c.requires.unasked c.in-Ok-open.ensures.asked)
    (served_for g.R.Runner g.F.Shelf _ (from_conn (image_at g.S.Start) c.in-Ok-open.conn) coming
    (λ database history begun. begun) (λ error never. absurd never)
    (λ fault conn none. (c.in-Ok-open.conn, c.in-Ok-open.ensures.same, none))
    c.args.order.now named c.args.tools c.serve_database.result.0 c.serve_database.result.1
    (c.args.out.now.shown ++ c.args.out.now.waiting) (c.serve_database.new.out.shown ++ c.serve_database.new.out.waiting)
    c.serve_database.ensures.served)

pub returns-in_default-clause-served : goal.returns-in_default-clause-served
returns-in_default-clause-served g c =
    unserved _ c.args.tools c.args.tools (Refused NoMemory) (c.args.out.now.shown ++ c.args.out.now.waiting)
    (c.args.out.now.shown ++ c.args.out.now.waiting) (inl (c.requires.unasked, refl)) refl refl

pub returns-in-Err-clause-served : goal.returns-in-Err-clause-served
returns-in-Err-clause-served g c =
    let it = c.in-Err.ensures.exact in
    unserved _ c.args.tools c.args.tools c.in-Err.failure (c.args.out.now.shown ++ c.args.out.now.waiting)
    (c.args.out.now.shown ++ c.args.out.now.waiting)
    (inr (it.0, it.1, asked_alone _ _ (opened c.args.order.now.options.database.now (Some it.0)) c.requires.unasked it.2, it.3)) refl refl
