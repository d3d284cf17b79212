use Rattle.std.proofs.Common.{◌≡◌, ℕ, length, subst, arith}
use Rattle.ccr_page.specs.Pieces.{Adds}
use Rattle.ccr_page.specs.Each.{at_each}
use Rattle.ccr_page.specs.Strokes.{edge_at}
use Rattle.ccr_page.proofs.Adding.{adds_at}
use Rattle.ccr_page.proofs.stroke.push_edges.Goals as goal

pub loop-position-preserved : goal.loop-position-preserved
loop-position-preserved c =
    adds_at (edge_at c.args.stroke c.args.arrows.now c.args.paths.now) c.loop-position.position c.args.out.now.items c.loop-position.out.items c.push_edge_at.new.out.items
    c.loop-position.invariant c.in_ok-push_edge_at.ensures

pub returns : goal.returns
returns c =
    let e : c.loop-position.position ≡ length c.args.paths.now = omega (arith, c.loop-position-test.false, c.loop-position.auto.position-end) in
    let P : ℕ → Type 0 = λ n. Adds c.args.out.now.items c.loop-position.out.items (at_each (edge_at c.args.stroke c.args.arrows.now c.args.paths.now) n) in
    subst P e c.loop-position.invariant
