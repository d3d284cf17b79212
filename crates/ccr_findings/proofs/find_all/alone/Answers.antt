use Rattle.ccr_findings.proofs.Unread.{told_alone}
use Rattle.ccr_findings.proofs.find_all.alone.Goals as goal

pub returns-in_ok-push-in_default : goal.returns-in_ok-push-in_default
returns-in_ok-push-in_default c =
    told_alone _ _ c.in_default.not-NoMemory (rw c.new-faults.ensures.items at c.in_ok-push-in_default.ensures.items)
