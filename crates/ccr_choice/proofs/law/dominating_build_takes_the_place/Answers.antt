use Rattle.ccr_choice.proofs.Exchange.{other_satisfies}
use Rattle.ccr_choice.proofs.law.dominating_build_takes_the_place.Goals as goal

pub returns : goal.returns
returns c = λ p rules places builds j b other sat within now one another dominated. other_satisfies p rules places builds j b other sat within now one another dominated
