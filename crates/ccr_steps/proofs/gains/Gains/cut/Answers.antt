use Rattle.std.proofs.Common.{◌∙◌, map, ap, sym}
use Rattle.std.proofs.lemmas.List.{take-map}
use Rattle.ccr_steps.specs.Gains.{moved_data}
use Rattle.ccr_steps.proofs.gains.Gains.cut.Goals as goal

pub returns-clause-moved : goal.returns-clause-moved
returns-clause-moved c = ap (map moved_data) c.truncate-2.ensures.items ∙ sym (take-map moved_data c.args.moved c.args.self.now.moved.items)
