use Rattle.std.proofs.Common.{◌≡◌, length, arith, ap, ◌∙◌, string_bytes}
use Rattle.std.proofs.lemmas.Grind.{common_steps}
use Rattle.ccr_choice.specs.ProblemText.{problem_text, problem_in}
use Rattle.ccr_choice.proofs.Bounds.{rules_of, builds_few}
use Rattle.ccr_choice.proofs.ReadLaws.{problem_text_again}
use Rattle.ccr_choice.proofs.write.write_problem.Goals as goal

pub overflow_cast-jobs : goal.overflow_cast-jobs
overflow_cast-jobs c =
    let few = (rules_of c.args.problem.now c.jobs-jobs.ensures.kept).few_jobs in
    omega (arith, few, ap length c.jobs-jobs.ensures.value)

pub put_jobs-requires : goal.put_jobs-requires
put_jobs-requires c = builds_few c.args.problem.now c.jobs-jobs.result.now c.jobs-jobs.ensures.value c.jobs-jobs.ensures.kept

pub returns-clause-again : goal.returns-clause-again
returns-clause-again c =
    let text : string_bytes c.put_jobs.new.out ≡ problem_text c.args.problem.now = grind (arith, common_steps) in
    ap problem_in text ∙ problem_text_again c.args.problem.now c.jobs-jobs.ensures.kept
