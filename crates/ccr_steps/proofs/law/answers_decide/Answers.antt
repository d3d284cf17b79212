use Rattle.ccr_steps.specs.Gains.{no_gains}
use Rattle.ccr_steps.specs.Play.{play}
use Rattle.ccr_steps.proofs.Leading.{answers_lead}
use Rattle.ccr_steps.proofs.Plays.{plays}
use Rattle.ccr_steps.proofs.law.answers_decide.Goals as goal

pub returns : goal.returns
returns c = λ i t es fs o u g h m n same. answers_lead (play i t no_gains) es fs o u g h ((plays i t no_gains es o g).0 m) ((plays i t no_gains fs u h).0 n) same
