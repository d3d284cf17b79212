use Rattle.ccr_store.proofs.OneHistory.{one_history}
use Rattle.ccr_store.proofs.law.rows_tell_the_history.Goals as goal

pub returns : goal.returns
returns c = λ h other its those same. one_history h other its those same
