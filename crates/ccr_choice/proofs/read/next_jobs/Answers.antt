use Rattle.std.proofs.Common.{◌-◌, arith, rules}
use Rattle.ccr_choice.specs.ProblemText.{next_job, next_jobs}
use Rattle.ccr_choice.proofs.Many.{many_start, many_step}
use Rattle.ccr_choice.proofs.read.next_jobs.Goals as goal

pub loop-init : goal.loop-init
unfolding next_jobs
loop-init c = many_start next_job (λ s builds. s) c.args.count _ c.args.scopes _ c.args.lines.now (omega arith) (search rules)

pub loop-preserved : goal.loop-preserved
loop-preserved c =
    many_step next_job (λ s builds. s) (c.args.count - c.loop.counter) _ c.args.scopes _ c.loop.jobs.items _ c.loop.lines _ c.in_ok-job.job _
    (omega arith) c.in_ok-job.ensures (search rules) (search rules) c.loop.invariant
