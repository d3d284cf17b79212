use Rattle.std.proofs.Common.{◌+◌, ◌∙◌}
use Rattle.ccr_store.specs.Rows.{version_rows, table_rows}
use Rattle.ccr_store.proofs.OneHistory.{versions_at, tables_from}
use Rattle.ccr_store.proofs.ReadRows.{handed_on, split}
use Rattle.ccr_store.proofs.ReadTables.{table_added, table_fits, here_at, not_at, number_read}
use Rattle.ccr_store.proofs.reading.add_table.Goals as goal

pub returns-in_err-seen : goal.returns-in_err-seen
returns-in_err-seen c id t ts small rules texts at rest others room =
    let same = number_read id c.in_ok-id.id c.args.row.now _ at c.in_ok-id.ensures.value in
    let count = c.id_count.ensures.is (version_rows id 1 t.versions) (table_rows (id + 1) ts) rest (here_at id c.in_ok-id.id (version_rows id 1 t.versions) same (versions_at id 1 t.versions)) (not_at id c.in_ok-id.id (table_rows (id + 1) ts) same (tables_from (id + 1) ts)) in
    let parts = split c.id_count.result c.args.rest.now (version_rows id 1 t.versions) (table_rows (id + 1) ts) c.split_at.result.0.now c.split_at.result.1.now rest count c.split_at.ensures.front c.split_at.ensures.back in
    handed_on _ c.from_residual-in_err-seen.result _ c.from_residual-in_err-seen.ensures.1 (c.in_err-seen.ensures id t.versions texts.3 parts.0)

pub returns-in_err-report : goal.returns-in_err-report
returns-in_err-report c id t ts small rules texts at rest others room =
    let same = number_read id c.in_ok-id.id c.args.row.now _ at c.in_ok-id.ensures.value in
    let count = c.id_count.ensures.is (version_rows id 1 t.versions) (table_rows (id + 1) ts) rest (here_at id c.in_ok-id.id (version_rows id 1 t.versions) same (versions_at id 1 t.versions)) (not_at id c.in_ok-id.id (table_rows (id + 1) ts) same (tables_from (id + 1) ts)) in
    let parts = split c.id_count.result c.args.rest.now (version_rows id 1 t.versions) (table_rows (id + 1) ts) c.split_at.result.0.now c.split_at.result.1.now rest count c.split_at.ensures.front c.split_at.ensures.back in
    let scope = c.in_ok-scope.ensures id t.scope texts.0 texts.1 texts.2 at in
    let seen = c.in_ok-seen.ensures id t.versions texts.3 parts.0 in
    handed_on _ c.from_residual-in_err-report.result _ c.from_residual-in_err-report.ensures.1
    (c.in_err-report.ensures (table_fits t c.args.history.now.tables _ _ rules others room scope (c.deref.ensures.value ∙ seen)))

pub returns : goal.returns
returns c id t ts small rules texts at rest others room =
    let same = number_read id c.in_ok-id.id c.args.row.now _ at c.in_ok-id.ensures.value in
    let count = c.id_count.ensures.is (version_rows id 1 t.versions) (table_rows (id + 1) ts) rest (here_at id c.in_ok-id.id (version_rows id 1 t.versions) same (versions_at id 1 t.versions)) (not_at id c.in_ok-id.id (table_rows (id + 1) ts) same (tables_from (id + 1) ts)) in
    let parts = split c.id_count.result c.args.rest.now (version_rows id 1 t.versions) (table_rows (id + 1) ts) c.split_at.result.0.now c.split_at.result.1.now rest count c.split_at.ensures.front c.split_at.ensures.back in
    let scope = c.in_ok-scope.ensures id t.scope texts.0 texts.1 texts.2 at in
    let seen = c.in_ok-seen.ensures id t.versions texts.3 parts.0 in
    (parts.1, table_added t c.args.history.now c.report.new.history _ _ rules others scope (c.deref.ensures.value ∙ seen) (c.in_ok-report.ensures (table_fits t c.args.history.now.tables _ _ rules others room scope (c.deref.ensures.value ∙ seen))))
