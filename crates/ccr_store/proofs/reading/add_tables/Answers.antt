use Rattle.std.proofs.Common.{◌≡◌, ◌+◌, ◌<◌, ◌++◌, ◌∷◌, [], List, length, take, drop, ap, sym, ◌∙◌, subst, ap₂}
use Rattle.ccr_history.specs.declared.table.TheConstants.{MOST_SCOPES}
use Rattle.ccr_history.specs.Tables.{TableData}
use Rattle.ccr_history.specs.History.{HistoryData}
use Rattle.ccr_store.specs.Rows.{table_rows}
use Rattle.ccr_store.proofs.ReadRows.{handed_on}
use Rattle.ccr_store.proofs.ReadTables.{table_read, tables_whole, IsNew}
use Rattle.ccr_store.proofs.reading.add_tables.Goals as goal

pub returns-in_err-rest : goal.returns-in_err-rest
returns-in_err-rest c ts rules texts none scopes bodies =
    let i = c.loop-row.row-index in
    let so_far = c.loop-row.invariant ts rules texts none scopes bodies in
    let it = table_read ts c.args.scopes.now i c.row-item.result rules texts scopes c.loop-row-test.true c.row-item.is in
    let known : take i ts ≡ c.loop-row.history.tables = sym (ap (λ (h : HistoryData). h.tables) so_far.0) in
    handed_on _ c.from_residual.result _ c.from_residual.ensures.1
    (c.in_err-rest.ensures (i + 1) it.0 (drop (i + 1) ts) it.1 it.2 it.3 it.4 (so_far.1 ∙ ap (table_rows (i + 1)) it.5) (subst (IsNew it.0.scope) known it.6) (subst (λ (l : List TableData). length l < MOST_SCOPES) known it.7))

pub loop-row-preserved : goal.loop-row-preserved
loop-row-preserved c ts rules texts none scopes bodies =
    let i = c.loop-row.row-index in
    let so_far = c.loop-row.invariant ts rules texts none scopes bodies in
    let it = table_read ts c.args.scopes.now i c.row-item.result rules texts scopes c.loop-row-test.true c.row-item.is in
    let known : take i ts ≡ c.loop-row.history.tables = sym (ap (λ (h : HistoryData). h.tables) so_far.0) in
    let one =
    c.in_ok-rest.ensures (i + 1) it.0 (drop (i + 1) ts) it.1 it.2 it.3 it.4 (so_far.1 ∙ ap (table_rows (i + 1)) it.5) (subst (IsNew it.0.scope) known it.6) (subst (λ (l : List TableData). length l < MOST_SCOPES) known it.7) in (
      one.1 ∙ ap₂ (λ (h : HistoryData) (l : List TableData). record h { tables = l }) so_far.0 (ap (λ (l : List TableData). l ++ it.0 ∷ []) (sym known) ∙ sym it.8),
      one.0,
    )

pub returns : goal.returns
returns c ts rules texts none scopes bodies =
    let so_far = c.loop-row.invariant ts rules texts none scopes bodies in
    so_far.0 ∙ ap (λ (l : List TableData). record c.args.history.now { tables = l }) (tables_whole ts c.args.scopes.now c.loop-row.row-index scopes c.loop-row-test.false)
