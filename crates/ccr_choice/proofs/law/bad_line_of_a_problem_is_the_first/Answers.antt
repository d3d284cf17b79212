use Rattle.ccr_choice.proofs.ProblemForward.{problem_bad, problem_bad_back}
use Rattle.ccr_choice.proofs.law.bad_line_of_a_problem_is_the_first.Goals as goal

pub returns : goal.returns
returns c = λ bytes n. (problem_bad bytes n, problem_bad_back bytes n)
