use Rattle.ccr_page.proofs.Adding.{then_adds}
use Rattle.ccr_page.proofs.build.push_log_cell.Goals as goal

pub returns : goal.returns
returns c = then_adds (then_adds c.in_ok-push.ensures c.in_ok-push_log_link.ensures.written) c.in_ok-push-2.ensures
