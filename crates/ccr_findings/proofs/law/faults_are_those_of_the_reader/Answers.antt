use Rattle.ccr_findings.proofs.Reading.{refused_first, first_refused, read_none, none_read}
use Rattle.ccr_findings.proofs.law.faults_are_those_of_the_reader.Goals as goal

pub returns : goal.returns
returns c = λ bytes fs all. (
  λ f. (refused_first _ _ bytes fs f all, first_refused _ _ bytes fs f all),
  (read_none _ _ bytes fs all, none_read _ _ bytes fs all),
)
