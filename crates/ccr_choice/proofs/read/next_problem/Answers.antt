use Rattle.std.proofs.Common.{◌∙◌, subst, sym}
use Rattle.ccr_choice.specs.Problem.{ProblemValue, IsProblem}
use Rattle.ccr_choice.proofs.Keeps.{problem_keeps, problem_read}
use Rattle.ccr_choice.proofs.read.next_problem.Goals as goal

pub new-requires : goal.new-requires
new-requires c =
    let jobs = rw c.in_ok-front.ensures.scopes at c.in_ok-jobs.ensures in
    problem_keeps c.in_ok-format.format c.in_ok-count.count c.in_ok-count-2.count _ _ c.in_ok-front.front.inputs.items _ c.in_ok-jobs.jobs.items _
    c.in_ok-count.ensures.few c.in_ok-front.ensures.read (c.in_ok-count-2.ensures.same ∙ c.in_ok-front.ensures.jobs) jobs

pub returns-clause-read : goal.returns-clause-read
returns-clause-read c =
    problem_read c.args.lines.now _ _ _ _ _ _ _ _ _ _ _ _ _ _ c.in_ok-format.ensures c.in_ok-count.ensures.read c.in_ok-front.ensures.read
    c.in_ok-front.ensures.scopes c.in_ok-front.ensures.jobs c.in_ok-front.ensures.written c.in_ok-count-2.ensures.read c.in_ok-jobs.ensures c.new.ensures

pub returns-clause-kept : goal.returns-clause-kept
returns-clause-kept c =
    let jobs = rw c.in_ok-front.ensures.scopes at c.in_ok-jobs.ensures in
    let P : ProblemValue → Type 0 = IsProblem in
    subst P (sym c.new.ensures) (problem_keeps c.in_ok-format.format c.in_ok-count.count c.in_ok-count-2.count _ _ c.in_ok-front.front.inputs.items _ c.in_ok-jobs.jobs.items _
    c.in_ok-count.ensures.few c.in_ok-front.ensures.read (c.in_ok-count-2.ensures.same ∙ c.in_ok-front.ensures.jobs) jobs)
