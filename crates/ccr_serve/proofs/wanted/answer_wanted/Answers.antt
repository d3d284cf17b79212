use Rattle.std.proofs.Common.{◌∙◌, Bor, ap, option_map, subst, sym, unwrap_or}
use Rattle.std.specs.Option.{IfSome, option_copied}
use Rattle.ccr_pipeline.specs.Pipelines.{pipeline_data}
use Rattle.ccr_pipeline.specs.Tree.{tree_of}
use Rattle.ccr_pipeline.specs.declared.step.Step.{Step}
use Rattle.ccr_steps.specs.Asks.{ask_data}
use Rattle.ccr_task.specs.Faulty.{said_data}
use Rattle.ccr_task.specs.Places.{places_data}
use Rattle.ccr_task.specs.Starting.{step_label}
use Rattle.ccr_core.specs.Cores.{core_data}
use Rattle.ccr_core.specs.Holding.{NamesResource, Wants, step_in}
use Rattle.ccr_core.specs.State.{no_pipeline}
use Rattle.ccr_serve.specs.Asked.{Answers, BeginsAnswer}
use Rattle.ccr_serve.proofs.Wants.{some_mapped, some_of, has_pipeline, launches, step_there}
use Rattle.ccr_serve.proofs.wanted.answer_wanted.Goals as goal

pub unwrap-pipeline-requires : goal.unwrap-pipeline-requires
unwrap-pipeline-requires g c =
    let held = core_data c.args.core.now in
    some_mapped pipeline_data c.pipeline.result held.pipeline c.pipeline.ensures
    (has_pipeline held c.args.job.now c.args.number c.rules.ensures c.requires)

pub unwrap-requires : goal.unwrap-requires
unwrap-requires g c =
    let held = core_data c.args.core.now in
    some_of (λ (s : Bor Step). tree_of s.now) c.step_of.result (step_in held c.args.job.now c.args.number) c.step_of.ensures
    (step_there held c.args.job.now c.args.number c.rules.ensures c.requires)

pub answer_to-requires : goal.answer_to-requires
answer_to-requires g c =
    launches (core_data c.args.core.now) (ask_data c.unwrap-turn.result.1) (pipeline_data c.unwrap-pipeline.result.now)
    c.rules.ensures
    (sym c.pipeline.ensures ∙ ap (λ o. option_map pipeline_data (option_copied o)) c.unwrap-pipeline.ensures)
    (λ s is. subst (λ o. IfSome o (λ w. NamesResource s (ask_data w.1))) c.unwrap-turn.ensures (c.wants.ensures.named s is))

pub returns-in-Ok-clause-ok : goal.returns-in-Ok-clause-ok
returns-in-Ok-clause-ok g c =
    let held = core_data c.args.core.now in
    let o = c.in-Ok.ensures.ok in
    record {
      ask = c.unwrap-turn.result.1;
      wants = subst (λ w. Wants held c.args.job.now c.args.number w) c.unwrap-turn.ensures c.wants.ensures.asked;
      step = tree_of c.unwrap.result.now;
      at = sym c.step_of.ensures ∙ ap (λ o. option_map (λ (s : Bor Step). tree_of s.now) o) c.unwrap.ensures;
      pair = o.0;
      adds = o.1;
      answers = subst
          (λ p. Answers (places_data c.args.places.now) (unwrap_or p no_pipeline).resources
          c.args.job.now c.args.number (step_label (tree_of c.unwrap.result.now)) (ask_data c.unwrap-turn.result.1)
          (g.S.Shelf.calls c.args.shelf.now) (g.S.Shelf.calls c.answer_to.new.shelf) o.0 (said_data c.in-Ok.said))
          (ap (λ q. option_map pipeline_data (option_copied q)) (sym c.unwrap-pipeline.ensures) ∙ c.pipeline.ensures)
          (rw c.step_label-label.ensures at o.2);
    }

pub returns-in-Err-clause-err : goal.returns-in-Err-clause-err
returns-in-Err-clause-err g c =
    let held = core_data c.args.core.now in
    let o = c.in-Err.ensures.err in
    record {
      turn = c.unwrap-turn.result.0;
      ask = c.unwrap-turn.result.1;
      wants = subst (λ w. Wants held c.args.job.now c.args.number w) c.unwrap-turn.ensures c.wants.ensures.asked;
      step = tree_of c.unwrap.result.now;
      at = sym c.step_of.ensures ∙ ap (λ o. option_map (λ (s : Bor Step). tree_of s.now) o) c.unwrap.ensures;
      lost = o.0;
      adds = o.1;
      begins = subst
          (λ p. BeginsAnswer (places_data c.args.places.now) (unwrap_or p no_pipeline).resources
          c.args.job.now c.args.number (step_label (tree_of c.unwrap.result.now)) (ask_data c.unwrap-turn.result.1)
          (g.S.Shelf.calls c.args.shelf.now) (g.S.Shelf.calls c.answer_to.new.shelf) o.0)
          (ap (λ q. option_map pipeline_data (option_copied q)) (sym c.unwrap-pipeline.ensures) ∙ c.pipeline.ensures)
          (rw c.step_label-label.ensures at o.2);
    }
