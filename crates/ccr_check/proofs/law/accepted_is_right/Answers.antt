use Rattle.ccr_choice.proofs.Orders.{is_order, better_is_later}
use Rattle.ccr_proof.proofs.Sound.{accepted_right}
use Rattle.ccr_check.proofs.law.accepted_is_right.Goals as goal

pub returns-clause-right : goal.returns-clause-right
returns-clause-right c = λ prefers order p rules claim t h. accepted_right prefers order p rules claim t h

pub returns-clause-order : goal.returns-clause-order
returns-clause-order c = is_order

pub returns-clause-later : goal.returns-clause-later
returns-clause-later c = λ p none places others. better_is_later p none places others
