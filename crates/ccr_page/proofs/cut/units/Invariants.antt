use Rattle.std.proofs.Common.{◌≡◌, ◌+◌, ◌*◌, ◌≤◌, drop}
use Rattle.ccr_page.specs.Texts.{units}
use Rattle.ccr_page.proofs.cut.units.Given as goal

abbrev pub invariant-loop-byte : goal.invariant-loop-byte
invariant-loop-byte l = record { rest : l.units + units (drop l.byte-index l.text) ≡ units l.text; few : l.units ≤ 2 * l.byte-index }
