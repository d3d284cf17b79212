use Rattle.std.proofs.Common.{◌≡◌, ℕ, ◌+◌, option_map, sym, ap, ap₂, ◌∙◌, arith, refl, length, List, slice_get}
use Rattle.std.proofs.lemmas.Option.{same_Some}
use Rattle.sqlite.specs.Order.{Row}
use Rattle.ccr_store.proofs.FrontRows.{rows_length, row_there}
use Rattle.ccr_history.specs.Tables.{TableData}
use Rattle.ccr_store.specs.Rows.{scope_row, scope_rows}
use Rattle.ccr_store.proofs.ListedRows.{rows_step, scope_there, at_next}
use Rattle.ccr_store.proofs.matching.are_scopes.Goals as goal

pub loop-row-preserved : goal.loop-row-preserved
loop-row-preserved c =
    let i = c.loop-row.row-index in
    let known = c.loop-row.invariant.id in
    let it = scope_there c.args.history.now.tables c.loop-row.id i c.in-Some.scope.now known (sym c.in-Some.ensures) in
    let same = c.is_scope.ensures.is c.if-not-is_scope.false ∙ ap (λ (n : ℕ). scope_row (n + 1) c.in-Some.scope.now) known ∙ ap (scope_row (i + 1)) (sym it.2) in
    record {
      id = omega (arith, known);
      left = λ rest. c.loop-row.invariant.left (rows_step scope_rows (λ (k : ℕ) (t : TableData). scope_row k t.scope) (λ k x xs. refl) c.args.rows.now c.args.history.now.tables i c.row-item.result it.0 c.loop-row-test.true c.row-item.is it.1 same rest);
    }

pub returns-then-rows-scope_count-clause-only : goal.returns-then-rows-scope_count-clause-only
returns-then-rows-scope_count-clause-only c same =
    absurd (c.if-rows-scope_count.true (ap (λ (l : List Row). length l) same ∙ rows_length scope_rows (λ (k : ℕ) (t : TableData). scope_row k t.scope) (λ k. refl) (λ k x xs. refl) 1 c.args.history.now.tables ∙ sym c.scope_count.ensures.is))

pub returns-in_default-clause-only : goal.returns-in_default-clause-only
returns-in_default-clause-only c same =
    let known = c.loop-row.invariant.id in
    let tables = c.args.history.now.tables in
    let it = row_there scope_rows (λ (k : ℕ) (t : TableData). scope_row k t.scope) (λ k. refl) (λ k x xs. refl) 1 tables c.args.rows.now c.loop-row.row-index c.row-item.result same c.loop-row-test.true c.row-item.is in
    let both = c.in_default.ensures ∙ ap (option_map (λ (t : TableData). t.scope)) (at_next tables c.loop-row.id ∙ ap (slice_get tables) known ∙ it.1) in
    absurd cc

pub returns-then-not-is_scope-clause-only : goal.returns-then-not-is_scope-clause-only
returns-then-not-is_scope-clause-only c same =
    let i = c.loop-row.row-index in
    let known = c.loop-row.invariant.id in
    let its = scope_there c.args.history.now.tables c.loop-row.id i c.in-Some.scope.now known (sym c.in-Some.ensures) in
    let it = row_there scope_rows (λ (k : ℕ) (t : TableData). scope_row k t.scope) (λ k. refl) (λ k x xs. refl) 1 c.args.history.now.tables c.args.rows.now i c.row-item.result same c.loop-row-test.true c.row-item.is in
    let next : 1 + i ≡ c.loop-row.id + 1 = omega (arith, known) in
    sym c.if-not-is_scope.true ∙ c.is_scope.ensures.only (it.2 ∙ ap₂ scope_row next (ap (λ (t : TableData). t.scope) (same_Some it.0 its.0 (sym it.1 ∙ its.1)) ∙ its.2))
