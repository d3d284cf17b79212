use Rattle.std.proofs.Common.{◌-◌, length}
use Rattle.ccr_run.proofs.lacking.+tell_from.Given as goal

abbrev pub decreases-tell_from : goal.decreases-tell_from
decreases-tell_from g l = length l.resources.now - l.at
