use Rattle.ccr_pipeline.proofs.OfLimits.{read_limits}
use Rattle.ccr_pipeline.proofs.Reordering.{reordered_same}
use Rattle.ccr_pipeline.proofs.UsedUp.{read_leaves_timeouts, read_leaves_none}
use Rattle.ccr_pipeline.proofs.reader.read.Goals as goal

pub returns-clause-limits : goal.returns-clause-limits
returns-clause-limits c = read_limits _ _ _ c.in_ok-value.ensures.ok c.read_value.ensures.checked

pub returns-clause-timeouts_left : goal.returns-clause-timeouts_left
returns-clause-timeouts_left c = read_leaves_timeouts _ _ _ c.in_ok-value.ensures.ok c.read_value.ensures.checked

pub returns-clause-none_left : goal.returns-clause-none_left
returns-clause-none_left c = read_leaves_none _ _ _ c.in_ok-value.ensures.ok c.read_value.ensures.checked

pub returns-in_err-value-clause-order : goal.returns-in_err-value-clause-order
returns-in_err-value-clause-order c = reordered_same _

pub returns-clause-order : goal.returns-clause-order
returns-clause-order c = reordered_same _
