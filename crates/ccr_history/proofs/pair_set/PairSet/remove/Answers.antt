use Rattle.std.proofs.Common.{◌∙◌, sym}
use Rattle.ccr_history.proofs.PairSets.{found_has, found_without, missed_has, missed_without}
use Rattle.ccr_history.proofs.pair_set.PairSet.remove.Goals as goal

pub returns-in-Ok-clause-removed : goal.returns-in-Ok-clause-removed
returns-in-Ok-clause-removed c =
    rw (← c.self.view_is)
    (c.remove.ensures.items
    ∙ found_without c.args.pair c.deref.result.now c.self.inside.pairs.items c.deref.ensures.value c.self.invariant
    c.in-Ok.position c.in-Ok.ensures.bound c.in-Ok.ensures.position)

pub returns-in-Ok-clause-was : goal.returns-in-Ok-clause-was
returns-in-Ok-clause-was c =
    rw (← c.self.view_is)
    (sym (found_has c.args.pair c.deref.result.now c.self.inside.pairs.items c.deref.ensures.value c.self.invariant
    c.in-Ok.position c.in-Ok.ensures.bound c.in-Ok.ensures.position))

pub returns-in-Err-clause-removed : goal.returns-in-Err-clause-removed
returns-in-Err-clause-removed c =
    rw (← c.self.view_is)
    (missed_without c.args.pair c.deref.result.now c.self.inside.pairs.items c.deref.ensures.value c.self.invariant
    c.in-Err.field-0 c.in-Err.ensures.bound c.in-Err.ensures.position)

pub returns-in-Err-clause-was : goal.returns-in-Err-clause-was
returns-in-Err-clause-was c =
    rw (← c.self.view_is)
    (sym (missed_has c.args.pair c.deref.result.now c.self.inside.pairs.items c.deref.ensures.value c.self.invariant
    c.in-Err.field-0 c.in-Err.ensures.bound c.in-Err.ensures.position))
