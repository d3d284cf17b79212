use Rattle.std.proofs.Common.{◌∷◌, []}
use Rattle.ccr_lines.proofs.explain.push_refusal.Goals as goal

pub returns : goal.returns
returns c = (c.in_ok-own.own ∷ [], c.in_ok-own.ensures, c.in_ok-push.ensures.items)
