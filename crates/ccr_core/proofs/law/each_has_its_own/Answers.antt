use Rattle.ccr_core.proofs.Owning.{each_has_its_own}
use Rattle.ccr_core.proofs.law.each_has_its_own.Goals as goal

pub returns : goal.returns
returns c = λ s after es rs e run. each_has_its_own s after es rs e run
