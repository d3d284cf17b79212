use Rattle.std.proofs.Common.{◌≡◌, arith}
use Rattle.ccr_page.specs.Jobs.{job_pieces}
use Rattle.ccr_page.proofs.Adding.{adds_each, adds_all}
use Rattle.ccr_page.proofs.job.push_each_job.Goals as goal

pub loop-position-preserved : goal.loop-position-preserved
loop-position-preserved c =
    adds_each job_pieces c.args.jobs.now c.loop-position.position c.index-jobs-position.result c.args.out.now.items c.loop-position.out.items c.push_job.new.out.items
    c.loop-position-test.true c.index-jobs-position.is c.loop-position.invariant c.in_ok-push_job.ensures

pub returns : goal.returns
returns c =
    adds_all job_pieces c.args.jobs.now c.loop-position.position c.args.out.now.items c.loop-position.out.items (omega (arith, c.loop-position-test.false)) c.loop-position.invariant
