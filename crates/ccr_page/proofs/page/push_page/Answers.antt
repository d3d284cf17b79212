use Rattle.ccr_page.proofs.Adding.{then_adds}
use Rattle.ccr_page.proofs.page.push_page.Goals as goal

pub returns : goal.returns
returns c = then_adds (then_adds (then_adds c.in_ok-push_head.ensures c.in_ok-push_header.ensures) c.in_ok-push_main.ensures) c.in_ok-push.ensures
