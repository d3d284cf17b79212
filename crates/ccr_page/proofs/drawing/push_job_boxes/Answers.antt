use Rattle.std.proofs.Common.{◌≡◌, arith}
use Rattle.ccr_page.specs.Drawings.{job_at}
use Rattle.ccr_page.proofs.Adding.{adds_each, adds_all}
use Rattle.ccr_page.proofs.drawing.push_job_boxes.Goals as goal

pub loop-position-preserved : goal.loop-position-preserved
loop-position-preserved c =
    adds_each (job_at c.args.boxes.now) c.args.jobs.now c.loop-position.position c.index-jobs-position.result c.args.out.now.items c.loop-position.out.items c.push_job_at.new.out.items
    c.loop-position-test.true c.index-jobs-position.is c.loop-position.invariant c.in_ok-push_job_at.ensures

pub returns : goal.returns
returns c =
    adds_all (job_at c.args.boxes.now) c.args.jobs.now c.loop-position.position c.args.out.now.items c.loop-position.out.items (omega (arith, c.loop-position-test.false)) c.loop-position.invariant
