use Rattle.std.proofs.lemmas.Result.{IfOk-weaker}
use Rattle.sqlite.proofs.Callers.{memory_is_clean}
use Rattle.ccr_store.proofs.store.Store+MemStore.open_in_memory.Goals as goal

pub returns-clause-stored : goal.returns-clause-stored
returns-clause-stored c =
    let empty = c.in_ok-open_in_memory.ensures.empty in
    IfOk-weaker c.adopt.result _ _ (λ store made. (made (memory_is_clean store.conn) empty.2).0) c.adopt.ensures.made

pub returns-clause-kept : goal.returns-clause-kept
returns-clause-kept c =
    let empty = c.in_ok-open_in_memory.ensures.empty in
    IfOk-weaker c.adopt.result _ _ (λ store made. made empty.2) c.adopt.ensures.kept
