-- A change that writes nothing leaves the rows as they are.
use Rattle.std.proofs.Common.{◌≡◌, List, [], ◌∷◌, sym, subst, inl, inr, OnOk, Result, Ok, Err}
use Rattle.sqlite_trees.specs.declared.store.Store.{Ghosts}
use Rattle.sqlite.specs.Tree.{Trees}
use Rattle.ccr_history.specs.History.{HistoryData, IsHistory}
use Rattle.ccr_history.specs.Changes.{changed}
use Rattle.ccr_history.specs.Edits.{change_data, Accepts}
use Rattle.ccr_history.specs.declared.change.Edit.{Edit}
use Rattle.ccr_history.proofs.ChangeLaws.{all_kept as history_kept}
use Rattle.ccr_tables.specs.Contents.{Keeps}
use Rattle.ccr_history.specs.Crash.{left_by}
use Rattle.ccr_store.specs.Crash.{Leaves}
use Rattle.ccr_store.specs.Rows.{rows_of}
use Rattle.ccr_store.specs.StoreData.{StoreData, IsKept}
use Rattle.ccr_store.specs.WriteData.{WriteData, all_made}
use Rattle.ccr_store.specs.Writes.{change_writes}
use Rattle.ccr_store.proofs.EditWrites.{edits_kept}

same_rows : (h : HistoryData) (es : List Edit) (trees : Trees) → IsHistory h → Accepts h es → change_writes es ≡ [] → Keeps (rows_of h) trees
    → Keeps (rows_of (changed (change_data es) h)) trees
same_rows h es trees rules accepts none keeps =
    edits_kept es h trees rules accepts (subst (λ (ws : List WriteData). Keeps (all_made ws (rows_of h)) trees) (sym none) keeps)

module _ {S : Type 0} (g : Ghosts S) (store : StoreData S) (es : List Edit) (h : HistoryData) (accepts : Accepts h es) (none : change_writes es ≡ []) where
  pub kept_by_nothing : IsKept g store h → IsKept g store (changed (change_data es) h)
  kept_by_nothing kept clean up =
      let it = kept clean up in
      (it.0, history_kept (change_data es) h it.1 accepts.0, record { schema = it.2.schema; rows = same_rows h es _ it.1 accepts none it.2.rows })

  pub left_by_nothing : IsHistory h → Leaves g store (h ∷ []) → Leaves g store (changed (change_data es) h ∷ [])
  left_by_nothing rules before clean trees may =
      let it = before clean trees may in
      (elim it.0 [ inl keeps ↦ inl (same_rows h es trees rules accepts none keeps) | inr nothing ↦ absurd nothing ], it.1)

-- what a commit leaves: after Ok the changed history, after a fault it or the one before
pub left_either : {A E S : Type 0} (g : Ghosts S) (store : StoreData S) (before after : HistoryData) (r : Result A E) → OnOk r (Leaves g store (after ∷ []))
    → Leaves g store (after ∷ before ∷ []) → Leaves g store (left_by r before after)
left_either g store before after (Ok a) made either = made
left_either g store before after (Err e) made either = either
