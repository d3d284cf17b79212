use Rattle.std.proofs.Common.{map, sym, subst}
use Rattle.ccr_pipeline.specs.Tree.{source_data, task_data, variable_data, task}
use Rattle.ccr_steps.specs.Asks.{answer_data}
use Rattle.ccr_steps.specs.Gains.{gains_data}
use Rattle.ccr_steps.specs.Frames.{source_next, NextIs}
use Rattle.ccr_steps.proofs.GainLaws.{grew_same}
use Rattle.ccr_steps.proofs.leaf.answer_task.Goals as goal

pub returns-in-File-clause-ok : goal.returns-in-File-clause-ok
returns-in-File-clause-ok c = λ i. subst (λ s. NextIs i (source_next (source_data s) (map variable_data c.args.task.now.params.items) (answer_data c.args.answer) (gains_data c.args.gains.now)) (task (task_data c.args.task.now)) (gains_data c.args.gains.now) c.answer_read.result) (sym c.in-File.is) (c.answer_read.ensures i)

pub returns-in-File-clause-grew : goal.returns-in-File-clause-grew
returns-in-File-clause-grew c = grew_same (gains_data c.args.gains.now)
