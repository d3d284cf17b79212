use Rattle.ccr_page.proofs.Adding.{then_adds}
use Rattle.ccr_page.proofs.stroke.push_back_lines.Goals as goal

pub returns : goal.returns
returns c = then_adds c.in_ok-push_stroke.ensures c.in_ok-push_stroke-2.ensures
