use Rattle.ccr_choice.proofs.Lookups.{builds_ascend}
use Rattle.ccr_choice.proofs.possible.sources.Goals as goal

pub returns-in-len1-up-clause-ascending : goal.returns-in-len1-up-clause-ascending
returns-in-len1-up-clause-ascending c = builds_ascend _ c.builds.result.now c.builds.ensures.kept
