use Rattle.std.proofs.Common.{◌∷◌, [], ap}
use Rattle.ccr_lines.proofs.explain.refusal.Goals as goal

pub returns : goal.returns
returns c = (c.in_ok-reason.reason, c.in_ok-reason.ensures, ap (λ t. t ∷ []) c.in_ok-refusal.ensures)
