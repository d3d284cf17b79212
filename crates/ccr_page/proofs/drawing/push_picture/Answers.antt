use Rattle.ccr_page.proofs.Adding.{then_adds}
use Rattle.ccr_page.proofs.drawing.push_picture.Goals as goal

pub returns : goal.returns
returns c = then_adds (then_adds c.in_ok-push_picture_head.ensures c.in_ok-push_picture_lines.ensures) c.in_ok-push_picture_boxes.ensures
