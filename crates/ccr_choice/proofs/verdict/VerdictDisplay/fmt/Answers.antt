use Rattle.std.proofs.Common.{ap, sym}
use Rattle.std.proofs.Output.{has_written_of_eq}
use Rattle.ccr_choice.specs.Words.{verdict_words}
use Rattle.ccr_choice.proofs.verdict.VerdictDisplay.fmt.Goals as goal

pub returns-in-NotPassed-clause-writes : goal.returns-in-NotPassed-clause-writes
returns-in-NotPassed-clause-writes g c plain ok = has_written_of_eq _ _ _ _ _ (ap verdict_words (sym c.in-NotPassed.is)) (c.write-in-NotPassed.ensures.writes plain ok)
