use Rattle.std.proofs.Common.{◌++◌, ◌∙◌, ◌+◌, Ok, ap, subst}
use Rattle.ccr_history.specs.Builds.{count_of}
use Rattle.ccr_core.specs.Cores.{core_data}
use Rattle.ccr_core.specs.Events as event
use Rattle.ccr_core.specs.Holding.{TakesStep}
use Rattle.ccr_lines.specs.Lines.{lines_of}
use Rattle.ccr_task.specs.Places.{places_data, abort_folder}
use Rattle.ccr_serve.proofs.Forgetting.{triggered_path, forgets_by}
use Rattle.ccr_serve.proofs.Refusing.{came_unmade}
use Rattle.ccr_serve.proofs.Steps.{cut_at_once}
use Rattle.ccr_serve.proofs.Triggering.{trigger_stop, trigger_unmade, trigger_made, trigger_refused}
use Rattle.ccr_serve.proofs.server.Server.trigger.Goals as goal

pub returns-in_default-clause-came : goal.returns-in_default-clause-came
returns-in_default-clause-came g c =
    cut_at_once _ (trigger_stop _ _) c.requires.ready c.begin_job.ensures.same

pub returns-in-Ok-replied-clause-replied : goal.returns-in-Ok-replied-clause-replied
returns-in-Ok-replied-clause-replied g c =
    let places = places_data c.args.self.now.places in
    let job = c.args.job.now in
    let was = core_data c.args.self.now.core in
    let is = core_data c.make.new.self.core in
    let reply = c.in-Ok-replied.reply in
    trigger_made places c.in-Ok.ensures.copied c.in-Ok-replied.is c.begin_job.ensures.same
    c.in-Ok-make.ensures.made (c.hand_out.ensures.same ∙ (c.print_job.ensures
    ∙ ap (λ h. g.O.Lines.written c.begin_job.new.out ++ lines_of (event.trigger job) (Ok reply) h)
    c.history-history.ensures))
    (forgets_by places job c.as_str.result.now (Ok reply) c.history-history.result.now is.history
    c.ended_at_once-ended.result (g.S.Shelf.calls c.args.self.now.shelf) (g.S.Shelf.calls c.make.new.self.shelf)
    (g.S.Shelf.calls c.forget.new.shelf)
    (triggered_path places job c.as_str.result.now (Ok reply) was is c.rules.ensures
    (c.as_str.ensures.value ∙ (c.in-Ok.ensures.request
    ∙ ap (λ h. abort_folder places job (count_of job h.builds + 1)) c.history.ensures))
    (subst (λ r. TakesStep was is (event.trigger job) r) c.in-Ok-replied.is
    (subst (λ t. TakesStep was is (event.trigger t) c.in-Ok-make.replied) c.in-Ok.ensures.copied
    c.in-Ok-make.ensures.made.takes)))
    c.ended_at_once-ended.ensures c.history-history.ensures c.in-Ok-make.ensures.made.rest.calls
    (c.forget.ensures places job))

pub returns-in-Ok-make-clause-came : goal.returns-in-Ok-make-clause-came
returns-in-Ok-make-clause-came g c =
    trigger_refused _ _ c.in-Ok.ensures.copied c.in-Err-replied.is c.begin_job.ensures.same c.in-Ok-make.ensures.made

pub returns-clause-came : goal.returns-clause-came
returns-clause-came g c =
    came_unmade _ _ _ (ap (λ t. event.trigger t) c.in-Ok.ensures.copied) (trigger_unmade _ _) c.begin_job.ensures.same c.in-Err.ensures.unmade
