use Rattle.ccr_steps.specs.Gains.{gains_data}
use Rattle.ccr_steps.proofs.GainLaws.{grew_same}
use Rattle.ccr_steps.proofs.leaf.answer_fetch.Goals as goal

pub returns-in-Failed-clause-grew : goal.returns-in-Failed-clause-grew
returns-in-Failed-clause-grew c = grew_same (gains_data c.args.gains.now)

pub returns-in-Pushed-clause-grew : goal.returns-in-Pushed-clause-grew
returns-in-Pushed-clause-grew c = grew_same (gains_data c.args.gains.now)

pub returns-in-Pushed-2-clause-grew : goal.returns-in-Pushed-2-clause-grew
returns-in-Pushed-2-clause-grew c = grew_same (gains_data c.args.gains.now)

pub returns-in-Pushed-3-clause-grew : goal.returns-in-Pushed-3-clause-grew
returns-in-Pushed-3-clause-grew c = grew_same (gains_data c.args.gains.now)

pub returns-in-Aborted-clause-grew : goal.returns-in-Aborted-clause-grew
returns-in-Aborted-clause-grew c = grew_same (gains_data c.args.gains.now)
