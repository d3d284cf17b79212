use Rattle.std.proofs.Common.{◌≡◌, ◌++◌, take}
use Rattle.ccr_choice.specs.Reading.{number_words}
use Rattle.ccr_choice.proofs.numbers.push_numbers.Given as goal

abbrev pub invariant-loop-n : goal.invariant-loop-n
invariant-loop-n l = l.words.items ≡ l.fn.words.items ++ number_words (take l.n-index l.numbers)
