use Rattle.std.proofs.Common.{List, flat_map, subst}
use Rattle.ccr_layout.specs.declared.picture.Tab.{Tab}
use Rattle.ccr_page.specs.declared.data.Arrow.{Arrow}
use Rattle.ccr_page.specs.Strokes.{lines_pieces}
use Rattle.ccr_page.specs.Drawings.{tab_pieces}
use Rattle.ccr_page.specs.Pieces.{Adds}
use Rattle.ccr_page.proofs.Adding.{then_adds}
use Rattle.ccr_page.proofs.drawing.push_picture_lines.Goals as goal

pub returns : goal.returns
returns c =
    let A : List Arrow → Type 0 = λ arrows. Adds c.args.out.now.items c.push_lines.new.out.items (lines_pieces arrows c.args.picture.now) in
    let T : List Tab → Type 0 = λ ts. Adds c.push.new.out.items c.push_tabs.new.out.items (flat_map (tab_pieces c.args.page.now) ts) in
    then_adds (then_adds (then_adds ((subst A c.deref.ensures.value c.in_ok-push_lines.ensures)) c.in_ok-push.ensures) (subst T c.deref-2.ensures.value c.in_ok-push_tabs.ensures)) c.in_ok-push-2.ensures
