use Rattle.std.proofs.Common.{◌≡◌, ◌+◌, ◌≤◌, length}
use Rattle.ccr_choice.specs.Text.{lines_of}
use Rattle.ccr_choice.proofs.line.line_count.Given as goal

abbrev pub invariant-loop-others : goal.invariant-loop-others
invariant-loop-others l = record { counted : l.count + length (lines_of l.rest) ≡ length (lines_of l.bytes); within : l.count + length l.rest ≤ length l.bytes }

abbrev pub decreases-loop-others : goal.decreases-loop-others
decreases-loop-others l = length l.rest
