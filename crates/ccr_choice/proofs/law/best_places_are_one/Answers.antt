use Rattle.std.proofs.Common.{◌∙◌, sym}
use Rattle.ccr_choice.proofs.BestPlaces.{best_places}
use Rattle.ccr_choice.specs.Problem.{input_at}
use Rattle.ccr_choice.proofs.Orders.{is_order, before_zero}
use Rattle.ccr_choice.proofs.PossibleLaws.{are_best, are_only}
use Rattle.ccr_choice.proofs.law.best_places_are_one.Goals as goal

pub returns-clause-some : goal.returns-clause-some
returns-clause-some c = λ prefers order p a. (best_places prefers p a, are_best prefers order p a)

pub returns-clause-only : goal.returns-clause-only
returns-clause-only c = λ prefers order p a places others best other.
    are_only prefers order p a places best ∙ sym (are_only prefers order p a others other)

pub returns-clause-order : goal.returns-clause-order
returns-clause-order c = is_order

pub returns-clause-last : goal.returns-clause-last
returns-clause-last c = λ p i place some. before_zero (input_at p i).after place some
