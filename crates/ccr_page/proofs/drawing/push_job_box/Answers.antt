use Rattle.ccr_page.proofs.Adding.{then_adds}
use Rattle.ccr_page.proofs.drawing.push_job_box.Goals as goal

pub returns : goal.returns
returns c = then_adds c.in_ok-push_job_frame.ensures c.in_ok-push_job_text.ensures
