use Rattle.std.proofs.Common.{◌≡◌, ◌++◌, length}
use Rattle.ccr_choice.specs.Reading.{front_numbers, after_numbers}
use Rattle.ccr_choice.proofs.numbers.front_numbers.Given as goal

abbrev pub invariant-loop-rest : goal.invariant-loop-rest
invariant-loop-rest l = record { front : l.numbers.items ++ front_numbers l.rest ≡ front_numbers l.words; after : after_numbers l.rest ≡ after_numbers l.words }

abbrev pub decreases-loop-rest : goal.decreases-loop-rest
decreases-loop-rest l = length l.rest
