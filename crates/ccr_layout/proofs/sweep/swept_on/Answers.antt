use Rattle.std.proofs.Common.{◌≡◌, ℕ, ◌+◌, List, length, sym, subst, arith}
use Rattle.std.specs.declared.vec.Vec.{Vec}
use Rattle.std.specs.declared.alloc.Global.{Global}
use Rattle.ccr_layout.specs.Standing.{AreColumns}
use Rattle.ccr_layout.proofs.StepLaws.{columns_more}
use Rattle.ccr_layout.proofs.sweep.swept_on.Goals as goal

pub loop-column-preserved : goal.loop-column-preserved
loop-column-preserved c =
    let P : List (Vec ℕ Global) → Type 0 = λ ts. AreColumns c.args.spans.now (c.loop-column.column + 1) ts in
    subst P (sym c.in_ok-push.ensures.items) (columns_more c.args.spans.now c.loop-column.column c.loop-column.swept.items c.in_ok-placed.placed c.loop-column.invariant c.in_ok-placed.ensures)

pub returns : goal.returns
returns c =
    let end : c.loop-column.column ≡ length c.args.lines.now = omega (arith, c.loop-column-test.false, c.loop-column.auto.column-end) in
    let P : ℕ → Type 0 = λ n. AreColumns c.args.spans.now n c.loop-column.swept.items in
    subst P end c.loop-column.invariant
