use Rattle.std.proofs.Common.{map}
use Rattle.std.proofs.lemmas.Result.{IfOk-weaker}
use Rattle.ccr_pipeline.specs.Tree.{variable_data}
use Rattle.ccr_task.proofs.Variables.{environment_of}
use Rattle.ccr_task.proofs.environment.environment.Goals as goal

pub returns : goal.returns
returns c = IfOk-weaker c.entries.result _ _
    (λ v e. environment_of (map variable_data c.args.config.now) (map variable_data c.args.step.now) c.new-env.result c.add_all.new.env c.add_all-2.new.env c.new-env.ensures.empty c.in_ok-add_all.ensures c.in_ok-add_all-2.ensures c.entries.ensures.ordered v.items e)
    c.entries.ensures.listed
