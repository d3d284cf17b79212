use Rattle.std.proofs.Common.{◌∙◌, sym}
use Rattle.ccr_overview.proofs.Going.{used_here, used_on}
use Rattle.ccr_overview.proofs.row.used_for.Goals as goal

pub returns-then-eq : goal.returns-then-eq
returns-then-eq c =
    used_here c.args.input.now c.args.build.now.used c.loop-k.k _ c.used_at-scope.ensures (sym c.eq.ensures ∙ c.if-eq.true)
    c.loop-k.invariant

pub loop-k-preserved : goal.loop-k-preserved
loop-k-preserved c =
    used_on c.args.input.now c.args.build.now.used c.loop-k.k _ c.used_at-scope.ensures (sym c.eq.ensures ∙ c.if-eq.false)
    c.loop-k.invariant
