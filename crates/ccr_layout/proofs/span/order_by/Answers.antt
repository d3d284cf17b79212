use Rattle.std.proofs.lemmas.List.Sorted.{Contains-permutation}
use Rattle.ccr_layout.proofs.span.order_by.Goals as goal

pub returns-clause-all : goal.returns-clause-all
returns-clause-all c = λ k within is.
    Contains-permutation c.in_ok-order.order.items c.sort_by_key.new.self.items k c.sort_by_key.ensures.permutation (c.in_ok-order.ensures.all k within is)
