use Rattle.std.proofs.Common.{◌≡◌, ℕ, List, ◌++◌, ◌∷◌, [], ap, ap₂, sym, ◌∙◌}
use Rattle.std.specs.Prelude.{string_bytes}
use Rattle.ccr_history.specs.Builds.{UsedData}
use Rattle.ccr_tables.specs.NamedRows.{named_row}
use Rattle.ccr_store.proofs.ReadRows.{used_read, used_is}
use Rattle.ccr_store.proofs.reading.read_used.Goals as goal

pub loop-pair-preserved : goal.loop-pair-preserved
loop-pair-preserved c id us same =
    let it = used_read id us c.args.pairs.now c.loop-pair.pair-index c.pair-item.result same c.loop-pair-test.true c.pair-item.is in
    let text : string_bytes c.in_ok-from_str.field-0 ≡ c.columns-scope.result.1.now = cc (c.in_ok-from_str.ensures.ok) in
    c.in_ok-push.ensures.items
    ∙ ap₂ (λ (l : List UsedData) (u : UsedData). l ++ u ∷ []) (c.loop-pair.invariant id us same)
    (used_is id it.0 c.pair-item.result c.columns-scope.result.0 (string_bytes c.in_ok-from_str.field-0) c.columns-scope.result.2 c.columns-scope.result.3 it.1
    (c.columns-scope.ensures ∙ ap (λ (t : List ℕ). named_row c.columns-scope.result.0 t c.columns-scope.result.2 c.columns-scope.result.3) (sym text)))
    ∙ sym it.2
