use Rattle.ccr_overview.proofs.Saying.{stop_told}
use Rattle.ccr_overview.proofs.law.reasons_are_explained.Goals as goal

pub returns : goal.returns
returns c s t r stop told = stop_told s t r stop told
