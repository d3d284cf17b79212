use Rattle.std.proofs.Common.{sym, subst}
use Rattle.ccr_history.specs.Changes.{changed}
use Rattle.ccr_history.specs.Crash.{left_by}
use Rattle.ccr_history.specs.Edits.{change_data}
use Rattle.ccr_store.specs.Crash.{Leaves}
use Rattle.ccr_store.specs.StoreData.{StoreData}
use Rattle.ccr_store.proofs.storage.StoreStorage.commit.Goals as goal

pub returns-clause-crash : goal.returns-clause-crash
returns-clause-crash g c h rules kept before accepts =
    let left = left_by c.write-answer.result h (changed (change_data c.args.change.now) h) in
    subst (λ (k : StoreData _). Leaves g.S.Store k left) (sym c.self.view_is) (c.write-answer.ensures.crash h rules kept before accepts)
