use Rattle.std.proofs.Common.{◌≡◌, ◌<◌, length}
use Rattle.ccr_choice.specs.Text.{value_after}
use Rattle.ccr_choice.proofs.word.value_of.Given as goal

abbrev pub invariant-loop-rest : goal.invariant-loop-rest
invariant-loop-rest l = record { same : value_after l.value l.rest ≡ value_after 0 l.digits; small : l.value < 4294967296 }

abbrev pub decreases-loop-rest : goal.decreases-loop-rest
decreases-loop-rest l = length l.rest
