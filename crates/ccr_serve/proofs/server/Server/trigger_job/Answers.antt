use Rattle.std.proofs.Common.{◌∙◌}
use Rattle.ccr_task.specs.Places.{places_data}
use Rattle.ccr_serve.proofs.RunParts.{turns_at, trigger_cut, trigger_done, trigger_unended}
use Rattle.ccr_serve.proofs.Refusing.{ends_so}
use Rattle.ccr_serve.proofs.Rounds.{moved}
use Rattle.ccr_serve.specs.Runs.{ToTheEnd}
use Rattle.ccr_serve.proofs.server.Server.trigger_job.Goals as goal

pub returns-in-Err-go_to_the_end-clause-came : goal.returns-in-Err-go_to_the_end-clause-came
returns-in-Err-go_to_the_end-clause-came g c =
    trigger_cut (places_data c.args.self.now.places) c.args.job.now c.in-Ok.reply c.in-Ok.ensures.replied
    c.in-Err-go_to_the_end.fault c.in-Err-go_to_the_end.ensures.after.ends
    (moved ToTheEnd c.in-Ok.ensures.after.places c.in-Err-go_to_the_end.ensures.served)

pub returns-then-ended-clause-came : goal.returns-then-ended-clause-came
returns-then-ended-clause-came g c =
    trigger_done (places_data c.args.self.now.places) c.args.job.now c.in-Ok.reply c.in-Ok.ensures.replied
    c.history.result.now c.status_of_reply.result c.history.ensures c.status_of_reply.ensures
    (turns_at c.in-Ok.ensures.after.places c.if-ended.true c.in-Ok-go_to_the_end.ensures.served)

pub returns-else-ended-clause-came : goal.returns-else-ended-clause-came
returns-else-ended-clause-came g c =
    trigger_unended (places_data c.args.self.now.places) c.args.job.now c.in-Ok.reply c.in-Ok.ensures.replied
    (turns_at c.in-Ok.ensures.after.places c.if-ended.false c.in-Ok-go_to_the_end.ensures.served)

pub returns-in-Err-go_to_the_end-clause-after : goal.returns-in-Err-go_to_the_end-clause-after
returns-in-Err-go_to_the_end-clause-after g c =
    let left = c.in-Err-go_to_the_end.ensures.after in
    let before = c.in-Ok.ensures.after in
    record {
      ends = ends_so c.in-Err-go_to_the_end.fault _ left.ends;
      places = left.places ∙ before.places;
      waiting = λ none. left.waiting (before.waiting none);
    }
