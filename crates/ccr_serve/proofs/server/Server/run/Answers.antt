use Rattle.std.proofs.Common.{◌∙◌, IsSome, refl, subst, sym}
use Rattle.ccr_task.specs.Places.{places_data}
use Rattle.ccr_serve.proofs.Refusing.{ends_so}
use Rattle.ccr_serve.proofs.RunParts.{turns_at, run_refused, run_cut_in_rounds, run_cut, run_done, run_unended}
use Rattle.ccr_serve.proofs.Rounds.{moved}
use Rattle.ccr_serve.specs.Runs.{ToTheEnd}
use Rattle.ccr_serve.proofs.server.Server.run.Goals as goal

pub returns-in-None-clause-came : goal.returns-in-None-clause-came
returns-in-None-clause-came g c =
    run_refused c.requires.ready (sym c.in-None.ensures)

pub returns-in-Err-clause-came : goal.returns-in-Err-clause-came
returns-in-Err-clause-came g c =
    run_cut_in_rounds (places_data c.args.self.now.places) c.args.rounds c.in-Err.fault c.in-Err.ensures.after.ends
    c.in-Err.ensures.served

pub returns-in-Err-clause-after : goal.returns-in-Err-clause-after
returns-in-Err-clause-after g c =
    let left = c.in-Err.ensures.after in
    record { ends = ends_so c.in-Err.fault _ left.ends; places = left.places; waiting = left.waiting }

pub returns-in-Err-go_to_the_end-clause-after : goal.returns-in-Err-go_to_the_end-clause-after
returns-in-Err-go_to_the_end-clause-after g c =
    let left = c.in-Err-go_to_the_end.ensures.after in
    let before = c.in-Ok.ensures.after in
    record {
      ends = ends_so c.in-Err-go_to_the_end.fault _ left.ends;
      places = left.places ∙ before.places;
      waiting = λ none. left.waiting (before.waiting none);
    }

pub returns-in-Err-go_to_the_end-clause-came : goal.returns-in-Err-go_to_the_end-clause-came
returns-in-Err-go_to_the_end-clause-came g c =
    run_cut (places_data c.args.self.now.places) c.args.rounds c.in-Ok.ensures.served c.in-Err-go_to_the_end.fault
    c.in-Err-go_to_the_end.ensures.after.ends
    (moved ToTheEnd c.in-Ok.ensures.after.places c.in-Err-go_to_the_end.ensures.served)

pub returns-then-ended-clause-came : goal.returns-then-ended-clause-came
returns-then-ended-clause-came g c =
    run_done (places_data c.args.self.now.places) c.args.rounds c.in-Ok.ensures.served
    (subst (λ p. IsSome p) c.in-Some.ensures refl)
    (turns_at c.in-Ok.ensures.after.places c.if-ended.true c.in-Ok-go_to_the_end.ensures.served)

pub returns-else-ended-clause-came : goal.returns-else-ended-clause-came
returns-else-ended-clause-came g c =
    run_unended (places_data c.args.self.now.places) c.args.rounds c.in-Ok.ensures.served
    (subst (λ p. IsSome p) c.in-Some.ensures refl)
    (turns_at c.in-Ok.ensures.after.places c.if-ended.false c.in-Ok-go_to_the_end.ensures.served)
