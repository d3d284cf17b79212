use Rattle.std.proofs.Common.{ℕ, List, subst}
use Rattle.ccr_page.specs.Lists.{items_pieces, more_pieces}
use Rattle.ccr_page.specs.Pieces.{Adds}
use Rattle.ccr_page.proofs.Adding.{then_adds}
use Rattle.ccr_page.proofs.list.push_list.Goals as goal

pub returns : goal.returns
returns c =
    let S : List ℕ → Type 0 = λ is. Adds c.push.new.out.items c.push_items.new.out.items (items_pieces c.args.jobs.now is) in
    let M : List ℕ → Type 0 = λ is. Adds c.push-2.new.out.items c.push_more.new.out.items (more_pieces c.args.jobs.now is) in
    then_adds (then_adds (then_adds c.in_ok-push.ensures (subst S c.positions_shown.ensures c.in_ok-push_items.ensures)) c.in_ok-push-2.ensures) (subst M c.positions_folded.ensures c.in_ok-push_more.ensures)
