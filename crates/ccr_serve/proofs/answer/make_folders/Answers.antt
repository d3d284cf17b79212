use Rattle.std.proofs.Common.{◌∙◌, map, Ok, Err, subst, string_bytes}
use Rattle.ccr_task.specs.Calls.{making, Does}
use Rattle.ccr_task.specs.Places.{places_data, build_folder, in_build}
use Rattle.ccr_serve.proofs.Folders.{made_at, does_on, ask_nothing, ask_not, ask_done}
use Rattle.ccr_serve.proofs.answer.make_folders.Goals as goal

pub returns-in_default-build_folder : goal.returns-in_default-build_folder
returns-in_default-build_folder g c =
    ask_nothing (build_folder (places_data c.args.places.now) c.args.job.now c.args.number) c.args.ask.now
    c.in_default.not-Fetch (g.S.Shelf.calls c.args.shelf.now)

pub returns-in-Err : goal.returns-in-Err
returns-in-Err g c =
    let before = g.S.Shelf.calls c.args.shelf.now in
    ask_not (build_folder (places_data c.args.places.now) c.args.job.now c.args.number) c.args.ask.now
    c.in_default.not-Fetch before (g.S.Shelf.calls c.make_folder.new.self) c.in-Err.fault c.in-Err.ensures.kind
    (made_at before (g.S.Shelf.calls c.make_folder.new.self) (Err c.in-Err.fault) c.as_str-2.result.now
    (build_folder (places_data c.args.places.now) c.args.job.now c.args.number) c.in-Err.ensures.called
    (c.as_str-2.ensures.value ∙ c.in-Ok-build_folder.ensures))

pub returns-in-RunTask : goal.returns-in-RunTask
returns-in-RunTask g c =
    let places = places_data c.args.places.now in
    let before = g.S.Shelf.calls c.args.shelf.now in
    let outputs = map string_bytes c.in-RunTask.config.now.outputs.items in
    rw c.in-RunTask.is
    (does_on (making (build_folder places c.args.job.now c.args.number))
    (map (λ name. making (in_build places c.args.job.now c.args.number name)) outputs)
    before c.make_each.result (g.S.Shelf.calls c.make_each.new.shelf)
    (subst (λ cs. Does (map (λ name. making (in_build places c.args.job.now c.args.number name)) outputs) cs
    c.make_each.result (g.S.Shelf.calls c.make_each.new.shelf))
    (made_at before (g.S.Shelf.calls c.make_folder.new.self) (Ok tt) c.as_str-2.result.now
    (build_folder (places_data c.args.places.now) c.args.job.now c.args.number) c.in-Ok-make_folder.ensures.called
    (c.as_str-2.ensures.value ∙ c.in-Ok-build_folder.ensures))
    (subst (λ names. Does (map (λ name. making (in_build places c.args.job.now c.args.number name))
    (map string_bytes names)) (g.S.Shelf.calls c.make_folder.new.self)
    c.make_each.result (g.S.Shelf.calls c.make_each.new.shelf)) c.deref.ensures.value c.make_each.ensures)))

pub returns : goal.returns
returns g c =
    let before = g.S.Shelf.calls c.args.shelf.now in
    ask_done (build_folder (places_data c.args.places.now) c.args.job.now c.args.number) c.args.ask.now
    c.in_default.not-Fetch before (g.S.Shelf.calls c.make_folder.new.self) c.in_default-ask.not-RunTask
    (made_at before (g.S.Shelf.calls c.make_folder.new.self) (Ok tt) c.as_str-2.result.now
    (build_folder (places_data c.args.places.now) c.args.job.now c.args.number) c.in-Ok-make_folder.ensures.called
    (c.as_str-2.ensures.value ∙ c.in-Ok-build_folder.ensures))
