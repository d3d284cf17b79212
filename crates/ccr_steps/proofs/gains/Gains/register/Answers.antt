use Rattle.std.proofs.Common.{◌∙◌}
use Rattle.ccr_steps.specs.Gains.{gains_data}
use Rattle.ccr_steps.proofs.GainLaws.{grew_same, register_grew}
use Rattle.ccr_steps.proofs.gains.Gains.register.Goals as goal

pub returns-in_err-add-clause-grew : goal.returns-in_err-add-clause-grew
returns-in_err-add-clause-grew c = let (ns, ms, n, m) = grew_same (gains_data c.args.self.now) in (ns, ms, c.in_err-add.ensures.unchanged ∙ n, m)

pub returns-clause-grew : goal.returns-clause-grew
returns-clause-grew c = let (ns, ms, n, m) = register_grew c.args.name.now (gains_data c.args.self.now) in (ns, ms, c.in_ok-add.ensures.added ∙ n, m)
