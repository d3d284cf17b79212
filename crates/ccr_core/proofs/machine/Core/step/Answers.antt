use Rattle.ccr_core.specs.Cores.{core_data}
use Rattle.ccr_core.specs.Events.{event_data}
use Rattle.ccr_core.proofs.Reaching.{step_kept}
use Rattle.ccr_core.proofs.machine.Core.step.Goals as goal

pub invariant_of-self : goal.invariant_of-self
invariant_of-self c =
    (step_kept (core_data c.self.inside.parts) (core_data c.take.new.self) (event_data c.args.event) c.take.result c.self.invariant.0 c.take.ensures.budget c.take.ensures.step c.take.ensures.kept c.take.ensures.unchanged, c.take.ensures.indexed)
