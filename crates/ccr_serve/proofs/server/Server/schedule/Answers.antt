use Rattle.std.proofs.Common.{◌++◌, ◌∙◌, ◌+◌, ap, subst}
use Rattle.ccr_history.specs.Builds.{count_of}
use Rattle.ccr_core.specs.Cores.{core_data}
use Rattle.ccr_core.specs.Events as event
use Rattle.ccr_core.specs.Holding.{TakesStep}
use Rattle.ccr_lines.specs.Lines.{lines_of}
use Rattle.ccr_task.specs.Places.{places_data, abort_folder}
use Rattle.ccr_serve.proofs.Forgetting.{scheduled_path, forgets_by}
use Rattle.ccr_serve.proofs.Steps.{cut_at_once, items_stop, unmade_at_once, schedule_unmade, schedule_made}
use Rattle.ccr_serve.proofs.server.Server.schedule.Goals as goal

pub returns-in_default-clause-served : goal.returns-in_default-clause-served
returns-in_default-clause-served g c =
    cut_at_once _ (items_stop _ _) c.requires.ready c.begin_job.ensures.same

pub returns-in-Ok-make-clause-served : goal.returns-in-Ok-make-clause-served
returns-in-Ok-make-clause-served g c =
    let places = places_data c.args.self.now.places in
    let job = c.args.name.now in
    let was = core_data c.args.self.now.core in
    let is = core_data c.make.new.self.core in
    let replied = c.in-Ok-make.replied in
    schedule_made places c.in-Ok.ensures.copied c.begin_job.ensures.same
    c.in-Ok-make.ensures.made (c.print_scheduled.ensures.told
    ∙ ap (λ h. g.O.Lines.written c.begin_job.new.out ++ lines_of (event.schedule job) replied h) c.history-history.ensures)
    (forgets_by places job c.as_str.result.now replied c.history-history.result.now is.history c.ended_at_once-ended.result
    (g.S.Shelf.calls c.args.self.now.shelf) (g.S.Shelf.calls c.make.new.self.shelf) (g.S.Shelf.calls c.forget.new.shelf)
    (scheduled_path places job c.as_str.result.now replied was is c.rules.ensures
    (c.as_str.ensures.value ∙ (c.in-Ok.ensures.request
    ∙ ap (λ h. abort_folder places job (count_of job h.builds + 1)) c.history.ensures))
    (subst (λ t. TakesStep was is (event.schedule t) replied) c.in-Ok.ensures.copied c.in-Ok-make.ensures.made.takes))
    c.ended_at_once-ended.ensures c.history-history.ensures c.in-Ok-make.ensures.made.rest.calls
    (c.forget.ensures places job))

pub returns-clause-served : goal.returns-clause-served
returns-clause-served g c =
    unmade_at_once (ap (λ t. event.schedule t) c.in-Ok.ensures.copied)
    (schedule_unmade (places_data c.args.self.now.places) c.args.name.now) c.begin_job.ensures.same c.in-Err.ensures.unmade
