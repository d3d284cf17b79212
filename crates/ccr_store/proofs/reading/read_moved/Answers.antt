use Rattle.std.proofs.Common.{ℕ, List, ◌++◌, ◌∷◌, [], ap₂, sym, ◌∙◌}
use Rattle.ccr_store.proofs.ReadRows.{moved_read, moved_is}
use Rattle.ccr_store.proofs.reading.read_moved.Goals as goal

pub loop-pair-preserved : goal.loop-pair-preserved
loop-pair-preserved c id ps same =
    let it = moved_read id ps c.args.pairs.now c.loop-pair.pair-index c.pair-item.result same c.loop-pair-test.true c.pair-item.is in
    c.in_ok-push.ensures.items
    ∙ ap₂ (λ (l : List (ℕ × ℕ)) (p : ℕ × ℕ). l ++ p ∷ []) (c.loop-pair.invariant id ps same) (moved_is id it.0 c.pair-item.result _ _ _ _ it.1 c.columns-scope.ensures)
    ∙ sym it.2
