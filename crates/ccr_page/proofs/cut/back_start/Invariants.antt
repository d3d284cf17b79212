use Rattle.std.proofs.Common.{◌≡◌, drop}
use Rattle.ccr_page.specs.Texts.{units, back}
use Rattle.ccr_page.proofs.cut.back_start.Given as goal

abbrev pub invariant-loop-at : goal.invariant-loop-at
invariant-loop-at l = record { rest : back l.most (drop l.at l.text) ≡ back l.most l.text; left : l.left ≡ units (drop l.at l.text) }
