use Rattle.std.proofs.Common.{◌≡◌, ◌∙◌, map, sym, refl, Some, None, true}
use Rattle.std.proofs.lemmas.Bool.{false≢true}
use Rattle.std.proofs.lemmas.Result.{err_from_is_err_and}
use Rattle.ccr_pipeline.specs.JobData.{job_data}
use Rattle.ccr_pipeline.specs.Links.{job_names}
use Rattle.ccr_pipeline.specs.Names.{has_name}
use Rattle.ccr_problem.specs.ProblemOf.{job_of}
use Rattle.ccr_problem.proofs.Jobs.{named, unnamed}
use Rattle.ccr_problem.proofs.problem.problem_of.Goals as goal

pub returns-in_err-problem_of_job-in-Some-clause-no_job : goal.returns-in_err-problem_of_job-in-Some-clause-no_job
returns-in_err-problem_of_job-in-Some-clause-no_job c =
    let js = map job_data c.args.pipeline.now.jobs.items in
    let found : job_of c.args.job.now js ≡ Some (job_data c.in-Some.job.now) = sym c.in-Some.ensures in
    let there : has_name (job_names js) c.args.job.now ≡ true = named c.args.job.now js (job_data c.in-Some.job.now) found in
    let err = err_from_is_err_and c.from_residual.result c.from_residual.ensures.1 in
    ((λ e. absurd (cc (err.1, err.2))), (λ f. absurd (false≢true (sym f ∙ there))))

pub returns-in_ok-problem_of_job-in-Some-clause-no_job : goal.returns-in_ok-problem_of_job-in-Some-clause-no_job
returns-in_ok-problem_of_job-in-Some-clause-no_job c =
    let js = map job_data c.args.pipeline.now.jobs.items in
    let found : job_of c.args.job.now js ≡ Some (job_data c.in-Some.job.now) = sym c.in-Some.ensures in
    let there : has_name (job_names js) c.args.job.now ≡ true = named c.args.job.now js (job_data c.in-Some.job.now) found in
    ((λ e. absurd (cc)), (λ f. absurd (false≢true (sym f ∙ there))))

pub returns-in-None-clause-no_job : goal.returns-in-None-clause-no_job
returns-in-None-clause-no_job c =
    let js = map job_data c.args.pipeline.now.jobs.items in
    let none : job_of c.args.job.now js ≡ None = sym c.in-None.ensures in
    ((λ e. unnamed c.args.job.now js none), (λ f. refl))
