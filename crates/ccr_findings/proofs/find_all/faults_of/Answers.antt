use Rattle.ccr_findings.proofs.Unread.{unread_all}
use Rattle.ccr_findings.proofs.find_all.faults_of.Goals as goal

pub returns-in-Err : goal.returns-in-Err
returns-in-Err c = unread_all c.alone.result (λ v. v.items) _ _ _ _ c.in-Err.ensures.err c.alone.ensures
