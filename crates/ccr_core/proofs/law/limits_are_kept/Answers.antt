use Rattle.ccr_core.proofs.Limiting.{limits_are_kept}
use Rattle.ccr_core.proofs.law.limits_are_kept.Goals as goal

pub returns : goal.returns
returns c = λ s after es rs e run. limits_are_kept s after es rs e run
