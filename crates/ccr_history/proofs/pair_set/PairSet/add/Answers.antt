use Rattle.std.proofs.Common.{◌≡◌, ◌∙◌, not, sym, ap, subst}
use Rattle.ccr_history.specs.Pairs.{ArePairs, with_pair}
use Rattle.ccr_history.proofs.PairSets.{ordered_with, found_has, found_with, missed_has, missed_with}
use Rattle.ccr_history.proofs.pair_set.PairSet.add.Goals as goal

-- ---- a pair that is there
pub returns-in-Ok-clause-added : goal.returns-in-Ok-clause-added
returns-in-Ok-clause-added c =
    rw (← c.self.view_is)
    (found_with c.args.pair c.deref.result.now c.self.inside.pairs.items c.deref.ensures.value c.self.invariant
    c.in-Ok.field-0 c.in-Ok.ensures.bound c.in-Ok.ensures.position)

pub returns-in-Ok-clause-is_new : goal.returns-in-Ok-clause-is_new
returns-in-Ok-clause-is_new c =
    rw (← c.self.view_is)
    (sym (ap not (found_has c.args.pair c.deref.result.now c.self.inside.pairs.items c.deref.ensures.value c.self.invariant
    c.in-Ok.field-0 c.in-Ok.ensures.bound c.in-Ok.ensures.position)))

-- ---- a new pair
added : (c : goal.In_ok-insert-in-Err) → c.insert.new.self.items ≡ with_pair c.args.pair c.self.inside.pairs.items
added c =
    c.in_ok-insert-in-Err.ensures.items
    ∙ missed_with c.args.pair c.deref.result.now c.self.inside.pairs.items c.deref.ensures.value c.self.invariant
    c.in-Err.position c.in-Err.ensures.bound c.in-Err.ensures.position

pub invariant_of-self-in-Err : goal.invariant_of-self-in-Err
invariant_of-self-in-Err c =
    subst ArePairs (sym (added c)) (ordered_with c.args.pair c.self.inside.pairs.items c.self.invariant)

pub returns-in_ok-insert-in-Err-clause-added : goal.returns-in_ok-insert-in-Err-clause-added
returns-in_ok-insert-in-Err-clause-added c = rw (← c.self.view_is) (added c)

pub returns-in_ok-insert-in-Err-clause-is_new : goal.returns-in_ok-insert-in-Err-clause-is_new
returns-in_ok-insert-in-Err-clause-is_new c =
    rw (← c.self.view_is)
    (sym (ap not (missed_has c.args.pair c.deref.result.now c.self.inside.pairs.items c.deref.ensures.value c.self.invariant
    c.in-Err.position c.in-Err.ensures.bound c.in-Err.ensures.position)))
