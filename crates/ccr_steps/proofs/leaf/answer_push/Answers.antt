use Rattle.ccr_steps.specs.Gains.{gains_data}
use Rattle.ccr_steps.proofs.GainLaws.{grew_same}
use Rattle.ccr_steps.proofs.leaf.answer_push.Goals as goal

pub returns-in-Failed-clause-grew : goal.returns-in-Failed-clause-grew
returns-in-Failed-clause-grew c = grew_same (gains_data c.args.gains.now)

pub returns-in-Done-clause-grew : goal.returns-in-Done-clause-grew
returns-in-Done-clause-grew c = grew_same (gains_data c.args.gains.now)

pub returns-in-Config-clause-grew : goal.returns-in-Config-clause-grew
returns-in-Config-clause-grew c = grew_same (gains_data c.args.gains.now)

pub returns-in-Errored-clause-grew : goal.returns-in-Errored-clause-grew
returns-in-Errored-clause-grew c = grew_same (gains_data c.args.gains.now)

pub returns-in-Aborted-clause-grew : goal.returns-in-Aborted-clause-grew
returns-in-Aborted-clause-grew c = grew_same (gains_data c.args.gains.now)
