use Rattle.std.proofs.Common.{refl, sym, ap, ◌∙◌}
use Rattle.std.proofs.lemmas.List.{length-map}
use Rattle.ccr_pipeline.specs.Inputs.{inputs}
use Rattle.ccr_pipeline.specs.Limits.{input_names}
use Rattle.ccr_pipeline.specs.Tree.{tree_of}
use Rattle.ccr_steps.specs.Asks.{chosen}
use Rattle.ccr_steps.specs.Inputs.{inputs_data, chosen_names}
use Rattle.ccr_steps.specs.Gains.{gains_data, no_gains}
use Rattle.ccr_steps.specs.Frames.{first}
use Rattle.ccr_steps.proofs.Choosing.{names_chosen}
use Rattle.ccr_steps.proofs.Standing.{began_from, begins}
use Rattle.ccr_steps.proofs.run.start.Goals as goal

pub invariant_of-result : goal.invariant_of-result
invariant_of-result c =
    let plan = tree_of c.args.job.now.plan.value in
    record {
      each =
          ap chosen_names c.in_ok-inputs.ensures
          ∙ names_chosen (input_names plan) c.args.versions.now (c.requires ∙ sym (length-map (inputs plan) (λ i. i.name)))
          ∙ ap (λ s. input_names (tree_of s)) (sym c.in_ok-plan.ensures.cases);
    }

pub returns : goal.returns
returns c =
    begins (tree_of c.args.job.now.plan.value) (chosen (input_names (tree_of c.args.job.now.plan.value)) c.args.versions.now)
    (record { plan = tree_of c.in_ok-plan.plan.value; inputs = inputs_data c.in_ok-inputs.inputs; at = record { frames = c.begin.new.frames.items; leaf = first; outcome = c.in_ok-outcome.outcome }; gains = gains_data c.new-gains.result; turn = 0 })
    (ap tree_of c.in_ok-plan.ensures.cases) c.in_ok-inputs.ensures c.new-gains.ensures refl refl
    (began_from (tree_of c.deref.result.now) (tree_of c.args.job.now.plan.value) (gains_data c.new-gains.result) no_gains c.new-frames.result.items c.begin.new.frames.items c.in_ok-outcome.outcome (ap tree_of (c.deref.ensures ∙ c.in_ok-plan.ensures.cases)) c.new-gains.ensures c.new-frames.ensures.items c.in_ok-outcome.ensures)
