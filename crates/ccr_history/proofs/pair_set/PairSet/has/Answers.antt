use Rattle.std.proofs.Common.{◌∙◌}
use Rattle.ccr_history.proofs.PairSets.{searched_has}
use Rattle.ccr_history.proofs.pair_set.PairSet.has.Goals as goal

pub returns : goal.returns
returns c =
    rw (← c.self.view_is)
    (c.is_ok.ensures.value
    ∙ searched_has c.args.pair c.deref.result.now c.self.inside.pairs.items c.deref.ensures.value c.self.invariant
    c.binary_search.result c.binary_search.ensures.bound c.binary_search.ensures.position)
