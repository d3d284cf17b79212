use Rattle.std.proofs.Common.{sym, subst}
use Rattle.ccr_history.specs.Names.{HasMore}
use Rattle.ccr_history.proofs.NameLemmas.{HasMore-same, HasMore-with_name}
use Rattle.ccr_history.proofs.builds.numbers.Goals as goal

pub returns-in_err-job-clause-jobs_more : goal.returns-in_err-job-clause-jobs_more
returns-in_err-job-clause-jobs_more c = HasMore-same c.args.jobs.now c.add.new.self c.in_err-job.ensures.unchanged

pub returns-clause-jobs_more : goal.returns-clause-jobs_more
returns-clause-jobs_more c =
    subst (HasMore c.args.jobs.now) (sym c.in_ok-job.ensures.added) (HasMore-with_name c.args.jobs.now c.args.job.now)
