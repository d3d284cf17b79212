use Rattle.std.proofs.Common.{◌∙◌, ◌++◌, ap, refl}
use Rattle.sqlite_wal.specs.Files.{image_at}
use Rattle.ccr_task.specs.Places.{places_data}
use Rattle.ccr_run.specs.Databases.{BeginsWith}
use Rattle.ccr_run.proofs.Serving.{counted, did_command, same_tools, unserved}
use Rattle.ccr_run.specs.declared.failure.Failure.TheVariants.{Refused}
use Rattle.ccr_run.proofs.run.serve_history.Goals as goal

pub serve_by-end-requires-clause-places : goal.serve_by-end-requires-clause-places
serve_by-end-requires-clause-places g c = ap places_data c.in-Ok.ensures.places ∙ c.requires.places

pub returns-in-Ok-clause-served : goal.returns-in-Ok-clause-served
returns-in-Ok-clause-served g c =
    let opened = c.in-Ok.ensures in (
      refl,
      did_command g.R.Runner g.F.Shelf _ (BeginsWith (image_at g.S.Start)) c.args.order.now c.args.tools c.args.database c.args.history c.in-Ok.server
          _ _ _ (c.args.out.now.shown ++ c.args.out.now.waiting) (c.serve_by-end.new.out.shown ++ c.serve_by-end.new.out.waiting)
          opened.same c.requires.found
          (record {
            ready = opened.ready;
            resumed = opened.resumed;
            last = opened.nobody;
            pairs = opened.pairs;
            calls = opened.calls;
            counted = counted _ _ c.requires.found.uncounted opened.counted;
          })
          c.serve_by-end.ensures.did,
    )

pub returns-in-Err-clause-served : goal.returns-in-Err-clause-served
returns-in-Err-clause-served g c = (
  refl,
  unserved _ c.args.tools _ (Refused c.in-Err.field-0.fault) (c.args.out.now.shown ++ c.args.out.now.waiting) _
      (record {
        storage = c.args.database;
        history = c.args.history;
        found = c.requires.found;
        fault = c.in-Err.field-0.fault;
        keeps = c.in-Err.ensures.only;
        failure_is = refl;
      })
      (same_tools c.args.tools _ c.in-Err.ensures.runner c.in-Err.ensures.shelf)
      (ap (λ out. out.shown ++ out.waiting) c.in-Err.ensures.quiet),
)
