use Rattle.ccr_serve.proofs.Openings.{resumed_begins, openings_make_best, all_is_made_best, used_stays_over_openings}
use Rattle.ccr_serve.proofs.law.openings_make_best.Goals as goal

pub returns-clause-begins : goal.returns-clause-begins
returns-clause-begins c = resumed_begins

pub returns-clause-best : goal.returns-clause-best
returns-clause-best c = openings_make_best

pub returns-clause-all : goal.returns-clause-all
returns-clause-all c = all_is_made_best

pub returns-clause-stays : goal.returns-clause-stays
returns-clause-stays c = used_stays_over_openings
