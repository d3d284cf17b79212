use Rattle.ccr_history.proofs.ChangeLaws.{none_is_history, kept, all_kept}
use Rattle.ccr_history.proofs.law.changes_keep_histories.Goals as goal

pub returns-clause-first : goal.returns-clause-first
returns-clause-first c = none_is_history

pub returns-clause-one : goal.returns-clause-one
returns-clause-one c = λ e h rules takes. kept e h rules takes

pub returns-clause-all : goal.returns-clause-all
returns-clause-all c = λ es h rules takes. all_kept es h rules takes
