use Rattle.std.proofs.Common.{◌≡◌, List, flat_map, ap, ◌∙◌, subst}
use Rattle.ccr_page.specs.Drawings.{resource_text}
use Rattle.ccr_page.specs.Pieces.{Adds}
use Rattle.ccr_page.proofs.Adding.{then_adds}
use Rattle.ccr_page.proofs.drawing.push_resource_text.Goals as goal

pub returns : goal.returns
returns c =
    then_adds (then_adds c.in_ok-push_label.ensures c.in_ok-push_below_resource.ensures) c.in_ok-push_box_close.ensures
