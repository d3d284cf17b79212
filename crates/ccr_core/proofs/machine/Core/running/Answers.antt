use Rattle.std.proofs.Common.{subst}
use Rattle.ccr_core.specs.Cores.{core_data}
use Rattle.ccr_core.specs.Positions.{AreInOrder}
use Rattle.ccr_core.proofs.Ordering.{running_ordered}
use Rattle.ccr_core.proofs.machine.Core.running.Goals as goal

pub returns-clause-ordered : goal.returns-clause-ordered
returns-clause-ordered c =
    subst (λ p. AreInOrder p.history.builds 0 (core_data p).names) c.self.view_is (running_ordered (core_data c.self.inside.parts) c.self.invariant.0)
