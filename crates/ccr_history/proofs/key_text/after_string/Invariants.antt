use Rattle.std.proofs.Common.{◌≡◌, ◌≤◌, length, false}
use Rattle.ccr_history.specs.Scan.{after_string}
use Rattle.ccr_history.proofs.key_text.after_string.Given as goal

abbrev pub invariant-loop-rest : goal.invariant-loop-rest
invariant-loop-rest l = (after_string l.escaped l.rest ≡ after_string false l.fn.text) × (length l.rest ≤ length l.fn.text)

abbrev pub decreases-loop-rest : goal.decreases-loop-rest
decreases-loop-rest l = length l.rest
