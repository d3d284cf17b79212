use Rattle.ccr_page.proofs.Adding.{then_adds}
use Rattle.ccr_page.proofs.stroke.push_lines.Goals as goal

pub returns : goal.returns
returns c = then_adds (then_adds c.in_ok-push_forward_lines.ensures c.in_ok-push_back_lines.ensures) c.in_ok-push_red_lines.ensures
