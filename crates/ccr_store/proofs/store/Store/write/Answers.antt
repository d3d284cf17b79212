use Rattle.std.proofs.Common.{◌≢◌, [], ◌∷◌}
use Rattle.ccr_history.specs.Changes.{changed}
use Rattle.ccr_history.specs.Edits.{change_data}
use Rattle.ccr_store.specs.Writes.{change_writes}
use Rattle.ccr_store.proofs.Nothing.{kept_by_nothing, left_by_nothing, left_either}
use Rattle.ccr_store.proofs.store.Store.write.Goals as goal

pub returns-then-writes_nothing-clause-done : goal.returns-then-writes_nothing-clause-done
returns-then-writes_nothing-clause-done g c h kept accepts =
    kept_by_nothing g.S.Store c.args.self.now c.args.change.now h accepts (c.writes_nothing.ensures.0 c.if-writes_nothing.true) kept

pub returns-then-writes_nothing-clause-crash : goal.returns-then-writes_nothing-clause-crash
returns-then-writes_nothing-clause-crash g c h rules kept before accepts =
    left_by_nothing g.S.Store c.args.self.now c.args.change.now h accepts (c.writes_nothing.ensures.0 c.if-writes_nothing.true) rules before

pub returns-clause-crash : goal.returns-clause-crash
returns-clause-crash g c h rules kept before accepts =
    let some : change_writes c.args.change.now ≢ [] = λ none. let yes = c.writes_nothing.ensures.1 none in let no = c.if-writes_nothing.false in absurd cc in
    left_either g.S.Store c.commit.new.self h (changed (change_data c.args.change.now) h) c.commit.result
    (c.commit.ensures.acknowledged h kept accepts) (c.commit.ensures.leaves (h ∷ []) h before kept accepts some)
