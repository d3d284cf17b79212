use Rattle.std.proofs.Common.{List, map, sym, refl}
use Rattle.ccr_history.specs.Builds.{UsedData}
use Rattle.ccr_store.specs.Rows.{used_row}
use Rattle.ccr_store.proofs.ListedRows.{rows_step}
use Rattle.ccr_store.proofs.matching.are_used.Goals as goal

pub loop-index-preserved : goal.loop-index-preserved
loop-index-preserved c rest =
    let used : UsedData = record { input = c.in-Some.input.now; scope = c.in-Some.scope; place = c.in-Some.place } in
    c.loop-index.invariant
    (rows_step (λ k (xs : List UsedData). map (used_row c.args.id) xs) (λ k. used_row c.args.id) (λ k x xs. refl) c.args.rows.now c.args.build.now.used c.loop-index.index c.index-rows-index.result used
    c.loop-index-test.true c.index-rows-index.is (sym c.in-Some.ensures) (c.is_pair.ensures.is c.if-not-is_pair.false) rest)
