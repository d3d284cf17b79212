use Rattle.std.proofs.Common.{ap}
use Rattle.std.proofs.lemmas.Result.{IfOk-weaker}
use Rattle.ccr_pipeline.specs.Tree.{tree_of, put_data, put}
use Rattle.ccr_steps.specs.Asks.{answer_data}
use Rattle.ccr_steps.specs.Gains.{gains_data}
use Rattle.ccr_steps.specs.Inputs.{inputs_data}
use Rattle.ccr_steps.specs.Frames.{first, leaf_data}
use Rattle.ccr_steps.proofs.GainLaws.{grew_same}
use Rattle.ccr_steps.proofs.Nexts.{next_at}
use Rattle.ccr_steps.proofs.StepTrees.{tree_put}
use Rattle.ccr_steps.proofs.leaf.answer_leaf.Goals as goal

pub returns-in-Put-First-clause-ok : goal.returns-in-Put-First-clause-ok
returns-in-Put-First-clause-ok c =
    IfOk-weaker c.answer_push.result _ _ (λ n h. next_at (inputs_data c.args.inputs.now) (tree_of c.args.step.now) (put (put_data c.in-Put-First.put)) (leaf_data c.args.leaf.now) first (answer_data c.args.answer) (gains_data c.args.gains.now) _ n (tree_put c.args.step.now c.in-Put-First.put c.in-Put-First.is-0) (ap leaf_data c.in-Put-First.is-1) (h (inputs_data c.args.inputs.now))) c.answer_push.ensures.ok

pub returns-in_default-clause-grew : goal.returns-in_default-clause-grew
returns-in_default-clause-grew c = grew_same (gains_data c.args.gains.now)
