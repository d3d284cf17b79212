use Rattle.std.proofs.Common.{◌≡◌, ◌≤◌, take}
use Rattle.ccr_page.specs.Texts.{trimmed}
use Rattle.ccr_page.proofs.escape.trimmed_length.Given as goal

abbrev pub invariant-loop-at : goal.invariant-loop-at
invariant-loop-at l = record { within : l.end ≤ l.at; value : take l.end l.text ≡ trimmed (take l.at l.text) }
