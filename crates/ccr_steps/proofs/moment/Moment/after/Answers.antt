use Rattle.std.proofs.Common.{◌∙◌, subst}
use Rattle.ccr_pipeline.specs.Tree.{tree_of}
use Rattle.ccr_steps.specs.Gains.{gains_data}
use Rattle.ccr_steps.specs.Frames.{NextIs}
use Rattle.ccr_steps.proofs.Standing.{after_ended}
use Rattle.ccr_steps.proofs.moment.Moment.after.Goals as goal

pub returns-in_ok-outcome-in-Ended : goal.returns-in_ok-outcome-in-Ended
returns-in_ok-outcome-in-Ended c = λ i s p at next.
    after_ended (tree_of c.args.plan.now) (gains_data c.args.gains.now) c.in_ok-frames.frames.items c.args.self.now.frames.items c.advance.new.frames.items c.in-Ended.ended c.in_ok-outcome-in-Ended.outcome (c.in_ok-frames.ensures.items ∙ c.deref.ensures.value) c.in_ok-outcome-in-Ended.ensures i p (subst (λ n. NextIs i p s (gains_data c.args.gains.now) n) c.in-Ended.is next)
