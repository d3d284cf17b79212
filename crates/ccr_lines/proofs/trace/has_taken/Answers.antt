use Rattle.std.proofs.Common.{◌∙◌, sym}
use Rattle.ccr_lines.specs.Traces.{is_sought}
use Rattle.ccr_lines.proofs.Showing.{any_here, any_on}
use Rattle.ccr_lines.proofs.trace.has_taken.Goals as goal

pub returns-then-is_sought : goal.returns-then-is_sought
returns-then-is_sought c =
    any_here (λ u. is_sought c.args.history.now.tables c.args.resource.now c.args.pin.now u.scope u.place)
    c.args.build.now.used c.loop-k.k _ c.used_at-scope.ensures (sym c.is_sought.ensures ∙ c.if-is_sought.true)
    c.loop-k.invariant

pub loop-k-preserved : goal.loop-k-preserved
loop-k-preserved c =
    any_on (λ u. is_sought c.args.history.now.tables c.args.resource.now c.args.pin.now u.scope u.place)
    c.args.build.now.used c.loop-k.k _ c.used_at-scope.ensures (sym c.is_sought.ensures ∙ c.if-is_sought.false)
    c.loop-k.invariant
