use Rattle.std.proofs.Common.{subst}
use Rattle.ccr_task.specs.Places.{places_data}
use Rattle.ccr_core.specs.Commands.{shown_data, shows}
use Rattle.ccr_lines.specs.Shown.{needs, IsUnshown}
use Rattle.ccr_lines.specs.declared.shown.ShowFault.{ShowFault}
use Rattle.ccr_serve.specs.Views.{full_view}
use Rattle.ccr_serve.proofs.Refusing.{lacks}
use Rattle.ccr_serve.proofs.Shows.{shown_so, shown_unpinned, shown_nothing}
use Rattle.ccr_serve.proofs.server.Server.show.Goals as goal

pub returns-in-Ok-clause-came : goal.returns-in-Ok-clause-came
returns-in-Ok-clause-came g c =
    let view = full_view g.R.Runner g.S.Shelf g.T.Storage g.O.Lines in
    shown_so (places_data c.args.self.now.places) (shown_data c.args.what.now) c.in-Ok.status
    (view c.args.self.now c.args.out.now) (g.O.Lines.written c.show.new.out) c.requires.ready c.in-Ok.ensures.shows

pub returns-in-Err-Lacks-clause-came : goal.returns-in-Err-Lacks-clause-came
returns-in-Err-Lacks-clause-came g c =
    let v = full_view g.R.Runner g.S.Shelf g.T.Storage g.O.Lines c.args.self.now c.args.out.now in
    let needed = needs (shown_data c.args.what.now) in
    lacks (places_data c.args.self.now.places) (shows (shown_data c.args.what.now)) c.in-Err-Lacks.fault v c.requires.ready
    c.in-Err-Lacks.ensures.shows.1
    (subst (λ (why : ShowFault). IsUnshown needed v.core.pipeline v.core.history why) c.in-Err-Lacks.field-0-is
    c.in-Err-Lacks.ensures.shows.0)

pub returns-in-Err-BadPin-clause-came : goal.returns-in-Err-BadPin-clause-came
returns-in-Err-BadPin-clause-came g c =
    let v = full_view g.R.Runner g.S.Shelf g.T.Storage g.O.Lines c.args.self.now c.args.out.now in
    let needed = needs (shown_data c.args.what.now) in
    shown_unpinned (places_data c.args.self.now.places) (shown_data c.args.what.now) v c.requires.ready
    c.in-Err-BadPin.ensures.shows.1
    (subst (λ (why : ShowFault). IsUnshown needed v.core.pipeline v.core.history why) c.in-Err-BadPin.field-0-is
    c.in-Err-BadPin.ensures.shows.0)

pub returns-in-Err-NoMemory-clause-came : goal.returns-in-Err-NoMemory-clause-came
returns-in-Err-NoMemory-clause-came g c =
    let v = full_view g.R.Runner g.S.Shelf g.T.Storage g.O.Lines c.args.self.now c.args.out.now in
    shown_nothing (places_data c.args.self.now.places) (shown_data c.args.what.now) v c.requires.ready
    c.in-Err-NoMemory.ensures.shows.1
