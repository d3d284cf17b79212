use Rattle.std.proofs.Common.{◌∙◌, sym}
use Rattle.std.proofs.lemmas.List.Folds.{list_all-map}
use Rattle.ccr_pipeline.specs.Tree.{input_data}
use Rattle.ccr_steps.specs.Gains.{gains_data, has_input}
use Rattle.ccr_steps.proofs.gains.Gains.has_inputs.Goals as goal

pub returns : goal.returns
returns c = c.has_each.ensures ∙ sym (list_all-map (has_input (gains_data c.args.self.now)) input_data c.args.inputs.now)
