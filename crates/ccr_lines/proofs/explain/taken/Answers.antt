use Rattle.std.proofs.Common.{◌∷◌, [], ap}
use Rattle.ccr_lines.proofs.explain.taken.Goals as goal

pub returns : goal.returns
returns c = (c.in_ok-newer.newer.items, c.in_ok-newer.ensures, ap (λ t. t ∷ []) c.in_ok-taken.ensures)
