use Rattle.std.proofs.Common.{◌≡◌, ◌++◌, take, drop}
use Rattle.ccr_page.specs.Texts.{front}
use Rattle.ccr_page.proofs.cut.front_length.Given as goal

abbrev pub invariant-loop-at : goal.invariant-loop-at
invariant-loop-at l = take l.at l.text ++ front l.left (drop l.at l.text) ≡ front l.most l.text
