use Rattle.std.proofs.Common.{◌≡◌, drop}
use Rattle.ccr_run.specs.Advised.{has_words}
use Rattle.ccr_run.proofs.advice.has_words.Given as goal

abbrev pub invariant-loop-at : goal.invariant-loop-at
invariant-loop-at l = has_words l.words l.text ≡ has_words l.words (drop l.at l.text)
