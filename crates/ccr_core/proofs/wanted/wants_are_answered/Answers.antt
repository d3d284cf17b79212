use Rattle.ccr_core.proofs.Aborting.{abort_is_taken}
use Rattle.ccr_core.proofs.Wanting.{each_wants, wanted_is_taken}
use Rattle.ccr_core.proofs.wanted.wants_are_answered.Goals as goal

pub returns-clause-each : goal.returns-clause-each
returns-clause-each c = each_wants

pub returns-clause-taken : goal.returns-clause-taken
returns-clause-taken c = wanted_is_taken

pub returns-clause-aborted : goal.returns-clause-aborted
returns-clause-aborted c = abort_is_taken
