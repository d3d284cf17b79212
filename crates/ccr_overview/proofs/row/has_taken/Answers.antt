use Rattle.std.proofs.Common.{◌∙◌, sym}
use Rattle.ccr_lines.specs.Releases.{is_pair}
use Rattle.ccr_overview.proofs.Going.{any_here, any_on}
use Rattle.ccr_overview.proofs.row.has_taken.Goals as goal

pub returns-then-is_pair : goal.returns-then-is_pair
returns-then-is_pair c =
    any_here (λ u. is_pair c.args.pair (u.scope, u.place)) c.args.build.now.used c.loop-k.k _ c.used_at-scope.ensures
    (sym c.is_pair.ensures ∙ c.if-is_pair.true) c.loop-k.invariant

pub loop-k-preserved : goal.loop-k-preserved
loop-k-preserved c =
    any_on (λ u. is_pair c.args.pair (u.scope, u.place)) c.args.build.now.used c.loop-k.k _ c.used_at-scope.ensures
    (sym c.is_pair.ensures ∙ c.if-is_pair.false) c.loop-k.invariant
