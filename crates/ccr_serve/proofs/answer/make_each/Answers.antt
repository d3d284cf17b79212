use Rattle.std.proofs.Common.{Ok, Err, string_bytes, arith}
use Rattle.ccr_task.specs.Calls.{making}
use Rattle.ccr_task.specs.Places.{places_data, in_build}
use Rattle.ccr_task.specs.declared.fault.ShelfFault.TheVariants.{NoMemory}
use Rattle.ccr_serve.proofs.Folders.{made_at, path_of, name_done, name_not, name_nothing}
use Rattle.ccr_serve.proofs.answer.make_each.Goals as goal

pub returns-in_default : goal.returns-in_default
returns-in_default g c =
    c.loop-name.invariant (Err NoMemory) (g.S.Shelf.calls c.loop-name.shelf)
    (name_nothing (λ name. making (in_build (places_data c.args.places.now) c.args.job.now c.args.number name))
    c.args.names.now c.loop-name.name-index c.name-item.result (omega arith) c.name-item.is
    (g.S.Shelf.calls c.loop-name.shelf))

pub returns-in-Err : goal.returns-in-Err
returns-in-Err g c =
    let before = g.S.Shelf.calls c.loop-name.shelf in
    c.loop-name.invariant (Err c.in-Err.fault) (g.S.Shelf.calls c.make_folder.new.self)
    (name_not (λ name. making (in_build (places_data c.args.places.now) c.args.job.now c.args.number name))
    c.args.names.now c.loop-name.name-index c.name-item.result (omega arith) c.name-item.is
    before (g.S.Shelf.calls c.make_folder.new.self) c.in-Err.fault c.in-Err.ensures.kind
    (made_at before (g.S.Shelf.calls c.make_folder.new.self) (Err c.in-Err.fault) c.as_str-in-loop-name.result.now
    (in_build (places_data c.args.places.now) c.args.job.now c.args.number (string_bytes c.name-item.result))
    c.in-Err.ensures.called
    (path_of (in_build (places_data c.args.places.now) c.args.job.now c.args.number) _ (string_bytes c.in-Ok.path)
    c.as_str.result.now (string_bytes c.name-item.result) c.as_str-in-loop-name.ensures.value c.in-Ok.ensures
    c.as_str.ensures.value)))

pub loop-name-preserved : goal.loop-name-preserved
loop-name-preserved g c = λ r after h.
    let before = g.S.Shelf.calls c.loop-name.shelf in
    c.loop-name.invariant r after
    (name_done (λ name. making (in_build (places_data c.args.places.now) c.args.job.now c.args.number name))
    c.args.names.now c.loop-name.name-index c.name-item.result (omega arith) c.name-item.is
    before (g.S.Shelf.calls c.make_folder.new.self) after r
    (made_at before (g.S.Shelf.calls c.make_folder.new.self) (Ok tt) c.as_str-in-loop-name.result.now
    (in_build (places_data c.args.places.now) c.args.job.now c.args.number (string_bytes c.name-item.result))
    c.in-Ok-make_folder.ensures.called
    (path_of (in_build (places_data c.args.places.now) c.args.job.now c.args.number) _ (string_bytes c.in-Ok.path)
    c.as_str.result.now (string_bytes c.name-item.result) c.as_str-in-loop-name.ensures.value c.in-Ok.ensures
    c.as_str.ensures.value)) h)
