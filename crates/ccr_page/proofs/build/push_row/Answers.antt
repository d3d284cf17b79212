use Rattle.std.proofs.Common.{◌≡◌, List, flat_map, ap, ◌∙◌, subst}
use Rattle.std.specs.Prelude.{Option}
use Rattle.ccr_page.specs.declared.data.Cell.{Cell}
use Rattle.ccr_page.specs.Builds.{cell_pieces}
use Rattle.ccr_page.specs.Pieces.{Adds}
use Rattle.ccr_page.proofs.Adding.{then_adds}
use Rattle.ccr_page.proofs.build.push_row.Goals as goal

pub returns : goal.returns
returns c =
    let F : List (Option Cell) → Type 0 = λ xs. Adds c.push_row_open.new.out.items c.push_cells.new.out.items (flat_map cell_pieces xs) in
    then_adds (then_adds (then_adds c.in_ok-push_row_open.ensures (subst F c.deref.ensures.value c.in_ok-push_cells.ensures)) c.in_ok-push_rest.ensures)
    c.in_ok-push_log.ensures
