use Rattle.ccr_explain.proofs.WhyLaws.{clash_shows}
use Rattle.ccr_explain.proofs.law.clash_of_the_question_shows_it.Goals as goal

pub returns : goal.returns
returns c = clash_shows
