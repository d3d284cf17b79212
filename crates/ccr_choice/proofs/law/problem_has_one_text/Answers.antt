use Rattle.std.proofs.Common.{refl}
use Rattle.ccr_choice.specs.ProblemText.{problem_text}
use Rattle.ccr_choice.proofs.ReadLaws.{problem_text_again, problem_text_kept, problem_text_found, nothing_follows}
use Rattle.ccr_choice.proofs.law.problem_has_one_text.Goals as goal

pub returns-clause-read : goal.returns-clause-read
returns-clause-read c = λ p rules. problem_text_again p rules

pub returns-clause-written : goal.returns-clause-written
returns-clause-written c = λ bytes p read. let kept = problem_text_kept bytes p read in (kept, problem_text_found bytes p kept read)

pub returns-clause-alone : goal.returns-clause-alone
returns-clause-alone c = λ p q more rules others e. nothing_follows (problem_text p) p rules refl q more others e
