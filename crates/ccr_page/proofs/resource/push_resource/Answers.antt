use Rattle.ccr_page.proofs.Adding.{then_adds}
use Rattle.ccr_page.proofs.resource.push_resource.Goals as goal

pub returns : goal.returns
returns c = then_adds (then_adds c.in_ok-push_resource_row.ensures c.in_ok-push_version_cells.ensures) c.in_ok-push_held_cell.ensures
