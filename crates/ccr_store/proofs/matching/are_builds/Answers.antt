use Rattle.std.proofs.Common.{◌≡◌, ℕ, ◌+◌, Some, sym, ap, ap₂, ◌∙◌, arith, refl, slice_get, length, List}
use Rattle.std.proofs.lemmas.Option.{same_Some}
use Rattle.sqlite.specs.Order.{Row}
use Rattle.ccr_store.proofs.FrontRows.{rows_length, row_there}
use Rattle.ccr_store.specs.Rows.{build_row, build_rows}
use Rattle.ccr_store.proofs.ListedRows.{rows_step}
use Rattle.ccr_store.proofs.matching.are_builds.Goals as goal

pub loop-row-preserved : goal.loop-row-preserved
loop-row-preserved c =
    let i = c.loop-row.row-index in
    let known = c.loop-row.invariant.id in
    let here = c.in-Some.ensures in
    let at : slice_get c.args.history.now.builds i ≡ Some c.in-Some.build = cc in
    let same = c.is_build.ensures.is c.if-not-is_build.false ∙ ap (λ (n : ℕ). build_row (n + 1) c.in-Some.build) known in
    record {
      id = omega (arith, known);
      left = λ rest. c.loop-row.invariant.left (rows_step build_rows build_row (λ k x xs. refl) c.args.rows.now c.args.history.now.builds i c.row-item.result c.in-Some.build c.loop-row-test.true c.row-item.is at same rest);
    }

pub returns-then-rows-build_count-clause-only : goal.returns-then-rows-build_count-clause-only
returns-then-rows-build_count-clause-only c same =
    absurd (c.if-rows-build_count.true (ap (λ (l : List Row). length l) same ∙ rows_length build_rows build_row (λ k. refl) (λ k x xs. refl) 1 c.args.history.now.builds ∙ sym c.build_count.ensures.is))

pub returns-in_default-clause-only : goal.returns-in_default-clause-only
returns-in_default-clause-only c same =
    let i = c.loop-row.row-index in
    let it = row_there build_rows build_row (λ k. refl) (λ k x xs. refl) 1 c.args.history.now.builds c.args.rows.now i c.row-item.result same c.loop-row-test.true c.row-item.is in
    absurd (c.in_default.not-Some it.0 (c.build_at.ensures ∙ ap (slice_get c.args.history.now.builds) c.loop-row.invariant.id ∙ it.1))

pub returns-then-not-is_build-clause-only : goal.returns-then-not-is_build-clause-only
returns-then-not-is_build-clause-only c same =
    let i = c.loop-row.row-index in
    let known = c.loop-row.invariant.id in
    let here = c.in-Some.ensures in
    let at : slice_get c.args.history.now.builds i ≡ Some c.in-Some.build = cc in
    let it = row_there build_rows build_row (λ k. refl) (λ k x xs. refl) 1 c.args.history.now.builds c.args.rows.now i c.row-item.result same c.loop-row-test.true c.row-item.is in
    let next : 1 + i ≡ c.loop-row.id + 1 = omega (arith, known) in
    sym c.if-not-is_build.true ∙ c.is_build.ensures.only (it.2 ∙ ap₂ build_row next (same_Some it.0 c.in-Some.build (sym it.1 ∙ at)))
