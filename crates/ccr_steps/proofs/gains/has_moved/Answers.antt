use Rattle.std.proofs.Common.{◌∙◌, sym}
use Rattle.ccr_steps.specs.Gains.{moved_data, is_same}
use Rattle.ccr_steps.proofs.GainLaws.{list_any-map}
use Rattle.ccr_steps.proofs.gains.has_moved.Goals as goal

pub returns : goal.returns
returns c = c.any_same.ensures ∙ sym (list_any-map (λ m. is_same m c.args.resource.now c.args.key.now) moved_data c.args.moved.now)
