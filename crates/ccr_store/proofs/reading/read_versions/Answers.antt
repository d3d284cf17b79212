use Rattle.std.proofs.Common.{List, ◌++◌, ◌∷◌, [], ap₂, sym, ◌∙◌}
use Rattle.ccr_history.specs.TextMap.{TextMap}
use Rattle.ccr_store.proofs.ReadRows.{handed_on, version_read, versions_whole}
use Rattle.ccr_store.proofs.reading.read_versions.Goals as goal

pub returns-in_err-read_version : goal.returns-in_err-read_version
returns-in_err-read_version c scope vs spelled same =
    let it = version_read scope vs c.args.rows.now c.loop-row.row-index c.row-item.result spelled same c.loop-row-test.true c.row-item.is in
    handed_on _ c.from_residual.result _ c.from_residual.ensures.1 (c.in_err-read_version.ensures it.0 it.1 it.2 it.3)

pub loop-row-preserved : goal.loop-row-preserved
loop-row-preserved c scope vs same spelled =
    let it = version_read scope vs c.args.rows.now c.loop-row.row-index c.row-item.result spelled same c.loop-row-test.true c.row-item.is in
    c.in_ok-push.ensures.items ∙ ap₂ (λ (l : List TextMap) (v : TextMap). l ++ v ∷ []) (c.loop-row.invariant scope vs same spelled) (c.in_ok-read_version.ensures it.0 it.1 it.2 it.3) ∙ sym it.4

pub returns : goal.returns
returns c scope vs spelled same =
    c.loop-row.invariant scope vs same spelled ∙ versions_whole scope vs c.args.rows.now c.loop-row.row-index same c.loop-row-test.false
