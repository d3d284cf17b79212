use Rattle.std.proofs.Common.{◌≡◌, ◌++◌, length}
use Rattle.ccr_choice.specs.Text.{words_of}
use Rattle.ccr_choice.proofs.line.line_of.Given as goal

abbrev pub invariant-loop-word : goal.invariant-loop-word
invariant-loop-word l = l.words.items ++ words_of l.rest ≡ words_of l.bytes

abbrev pub decreases-loop-word : goal.decreases-loop-word
decreases-loop-word l = length l.rest
