use Rattle.ccr_problem.proofs.Reports.{report_adds}
use Rattle.ccr_problem.proofs.law.reports_change_problems.Goals as goal

pub returns : goal.returns
returns c = report_adds
