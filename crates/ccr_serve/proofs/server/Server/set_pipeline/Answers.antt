use Rattle.std.proofs.Common.{[], None, Some, Ok, refl}
use Rattle.ccr_pipeline.specs.Pipelines.{pipeline_data}
use Rattle.ccr_task.specs.Places.{places_data}
use Rattle.ccr_core.specs.Commands.{set_pipeline}
use Rattle.ccr_core.specs.Events as event
use Rattle.ccr_serve.specs.Items.{no_loss}
use Rattle.ccr_serve.specs.Views.{full_view, bare_view}
use Rattle.ccr_serve.proofs.Refusing.{came_stopped}
use Rattle.ccr_serve.proofs.Steps.{after, cut_by_memory, none_added, calls_unmade, stops_item}
use Rattle.ccr_serve.proofs.Told.{not_read, set_begun, set_unmade, set_made, set_refused}
use Rattle.ccr_serve.proofs.server.Server.set_pipeline.Goals as goal

pub returns-in-Err-clause-came : goal.returns-in-Err-clause-came
returns-in-Err-clause-came g c =
    let view = full_view g.R.Runner g.S.Shelf g.T.Storage g.O.Lines in
    not_read (places_data c.args.self.now.places) c.args.path.now c.in-Err.fault
    (view c.args.self.now c.args.out.now) (g.S.Shelf.calls c.read_pipeline.new.shelf)
    c.requires.ready c.in-Err.ensures.err

pub returns-in_default-clause-came : goal.returns-in_default-clause-came
returns-in_default-clause-came g c =
    let v = full_view g.R.Runner g.S.Shelf g.T.Storage g.O.Lines c.args.self.now c.args.out.now in
    let was = c.in-Ok.ensures.ok in
    cut_by_memory v no_loss
    (set_begun (places_data c.args.self.now.places) c.args.path.now v (g.S.Shelf.calls c.read_pipeline.new.shelf)
    (Ok was.0) was.1) c.requires.ready (none_added _) c.make_pipeline_room.ensures.same

pub returns-in-Ok-Ok-clause-came : goal.returns-in-Ok-Ok-clause-came
returns-in-Ok-Ok-clause-came g c =
    let v = full_view g.R.Runner g.S.Shelf g.T.Storage g.O.Lines c.args.self.now c.args.out.now in
    set_made (places_data c.args.self.now.places) c.args.path.now v c.in-Ok.ensures.ok c.in-Ok-Ok.field-0-is
    c.make_pipeline_room.ensures.same c.in-Ok-Ok.ensures.made c.print_set.ensures.told

pub returns-in-Ok-Err-clause-came : goal.returns-in-Ok-Err-clause-came
returns-in-Ok-Err-clause-came g c =
    let v = full_view g.R.Runner g.S.Shelf g.T.Storage g.O.Lines c.args.self.now c.args.out.now in
    set_refused (places_data c.args.self.now.places) c.args.path.now v c.in-Ok.ensures.ok c.in-Ok-Err.field-0-is
    c.make_pipeline_room.ensures.same c.in-Ok-Err.ensures.made

pub returns-in-Err-make-clause-came : goal.returns-in-Err-make-clause-came
returns-in-Err-make-clause-came g c =
    let v = full_view g.R.Runner g.S.Shelf g.T.Storage g.O.Lines c.args.self.now c.args.out.now in
    let bare = bare_view g.R.Runner g.S.Shelf g.T.Storage in
    let k = g.S.Shelf.calls c.read_pipeline.new.shelf in
    let fault = c.in-Err-make.fault in
    came_stopped (places_data c.args.self.now.places) (set_pipeline c.args.path.now) fault (bare c.make.new.self)
    (stops_item fault (after v k v.pairs []) (bare c.make.new.self) c.in-Err-make.ensures.unmade) (calls_unmade
    (record { pair = None; event = Some (event.set_pipeline (pipeline_data c.in-Ok.pipeline)) }) refl
    (set_unmade (places_data c.args.self.now.places) c.args.path.now v k c.in-Ok.ensures.ok.0
    (pipeline_data c.in-Ok.pipeline) c.in-Ok.ensures.ok.1 c.in-Ok.ensures.ok.2)
    (none_added _) c.make_pipeline_room.ensures.same c.in-Err-make.ensures.unmade)
