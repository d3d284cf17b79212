use Rattle.std.proofs.Common.{ℕ, ◌+◌, List, get_or, sym, subst, arith}
use Rattle.std.proofs.lemmas.List.{get_or_default}
use Rattle.ccr_layout.proofs.PlaceLaws.{ArePlacing, low_at, placing_more, placed_all}
use Rattle.ccr_layout.proofs.place.place.Goals as goal

pub loop-node-preserved : goal.loop-node-preserved
loop-node-preserved c =
    let order = c.args.order.now in
    let heights = c.args.heights.now in
    let i = c.loop-node.node-index in
    let x = get_or order i 0 in
    let top = c.max-top.result in
    let next = top + c.at-height.result + c.gap_below.result in
    let is = c.loop-node.invariant in
    let low = low_at 710 heights x c.requires.low in
    let P : List ℕ → Type 0 = λ ts. ArePlacing order heights ts (i + 1) next in
    subst P (sym c.set_at.ensures) (placing_more order heights c.loop-node.tops.items i c.loop-node.free x top next is c.loop-node-test.true c.requires.few (get_or_default order i 0 x c.loop-node-test.true)
    (omega (arith, c.max-top.ensures)) (omega (arith, c.max-top.ensures, c.min.ensures, is.high)) (omega (arith, c.at-height.ensures, c.gap_below.ensures.high))
    (omega (arith, c.max-top.ensures, c.min.ensures, is.high, c.at-height.ensures, c.gap_below.ensures.low, low)))

pub returns : goal.returns
returns c = placed_all c.args.order.now c.args.heights.now c.loop-node.tops.items c.loop-node.node-index c.loop-node.free (omega (arith, c.loop-node-test.false)) c.loop-node.invariant
