use Rattle.std.proofs.Common.{refl}
use Rattle.ccr_store.specs.Listed.{listed_pairs}
use Rattle.ccr_store.specs.Rows.{disabled_rows}
use Rattle.ccr_store.proofs.OneHistory.{disabled_at, pairs_from}
use Rattle.ccr_store.proofs.ReadRows.{handed_on, split}
use Rattle.ccr_store.proofs.ReadTables.{here_at, not_at}
use Rattle.ccr_store.proofs.disabled.add_disabled.Goals as goal

pub returns-in_err-disable_all-clause-read : goal.returns-in_err-disable_all-clause-read
returns-in_err-disable_all-clause-read c ps bs rules none same =
    let count = c.pair_count.ensures.is (disabled_rows ps) (listed_pairs 1 bs) same (here_at 0 0 (disabled_rows ps) refl (disabled_at ps)) (not_at 0 0 (listed_pairs 1 bs) refl (pairs_from 1 bs)) in
    let parts = split c.pair_count.result c.args.rows.now (disabled_rows ps) (listed_pairs 1 bs) c.split_at.result.0.now c.split_at.result.1.now same count c.split_at.ensures.front c.split_at.ensures.back in
    handed_on _ c.from_residual.result _ c.from_residual.ensures.1 (c.in_err-disable_all.ensures.read ps rules none parts.0)

pub returns-clause-read : goal.returns-clause-read
returns-clause-read c ps bs rules none same =
    let count = c.pair_count.ensures.is (disabled_rows ps) (listed_pairs 1 bs) same (here_at 0 0 (disabled_rows ps) refl (disabled_at ps)) (not_at 0 0 (listed_pairs 1 bs) refl (pairs_from 1 bs)) in
    let parts = split c.pair_count.result c.args.rows.now (disabled_rows ps) (listed_pairs 1 bs) c.split_at.result.0.now c.split_at.result.1.now same count c.split_at.ensures.front c.split_at.ensures.back in
    (parts.1, c.in_ok-disable_all.ensures.read ps rules none parts.0)
