use Rattle.std.proofs.Common.{◌≡◌, ◌==◌, ◌<◌, ◌≤◌, ◌+◌, ◌++◌, [], length, length-append, refl, drop, sym, ap, ap₂, ◌∙◌, subst, List, arith}
use Rattle.std.proofs.lemmas.List.{take-append-drop, drop_all}
use Rattle.sqlite.specs.Order.{Row}
use Rattle.ccr_history.specs.TextMap.{TextMap}
use Rattle.ccr_history.specs.declared.table.TheConstants.{MOST_VERSIONS}
use Rattle.ccr_history.specs.History.{IsTable}
use Rattle.ccr_history.proofs.Links.{all-at}
use Rattle.ccr_store.specs.Rows.{version_row, version_rows, table_rows}
use Rattle.ccr_store.proofs.ListedRows.{tables_step, versions_there, drop_at}
use Rattle.ccr_store.proofs.FrontRows.{rows_length}
use Rattle.ccr_store.proofs.ReadRows.{split}
use Rattle.ccr_store.proofs.matching.are_versions.Goals as goal

pub are_bodies-requires : goal.are_bodies-requires
are_bodies-requires c =
    let i = c.loop-index.index in
    let tables = c.args.history.now.tables in
    let within : i < length tables = subst (λ n. i < n) c.scope_count-index-end.ensures.is c.loop-index-test.true in
    let it = versions_there tables i within in
    subst (λ (vs : List TextMap). length vs ≤ MOST_VERSIONS) (sym (c.versions_at-versions.ensures ∙ it.2)) (all-at IsTable tables i it.0 c.scope_count-index-end.ensures.kept.0.2 it.1).1

pub loop-index-preserved : goal.loop-index-preserved
loop-index-preserved c =
    let i = c.loop-index.index in
    let tables = c.args.history.now.tables in
    let within : i < length tables = subst (λ n. i < n) c.scope_count-index-end.ensures.is c.loop-index-test.true in
    let it = versions_there tables i within in
    let both : c.loop-index.rest.now ≡ c.split_at.result.0.now ++ c.split_at.result.1.now =
    sym (take-append-drop (length c.versions_at-versions.result.now) c.loop-index.rest.now) ∙ ap₂ (λ (x y : List Row). x ++ y) (sym c.split_at.ensures.front) (sym c.split_at.ensures.back) in
    let here : c.split_at.result.0.now ≡ version_rows (i + 1) 1 it.0.versions =
    c.in_ok-are_bodies.ensures.is c.if-not-branch.false ∙ ap (version_rows (i + 1) 1) (c.versions_at-versions.ensures ∙ it.2) in
    let many = rows_length (version_rows (i + 1)) (version_row (i + 1)) (λ k. refl) (λ k x xs. refl) 1 it.0.versions in
    let size : length c.versions_at-versions.result.now ≡ length (version_rows (i + 1) 1 it.0.versions) = ap (λ (vs : List TextMap). length vs) (c.versions_at-versions.ensures ∙ it.2) ∙ sym many in
    record {
      left = λ rest. c.loop-index.invariant.left (tables_step tables i it.0 c.loop-index.rest.now c.split_at.result.0.now c.split_at.result.1.now it.1 both here rest);
      so_far = λ same.
          (split (length c.versions_at-versions.result.now) c.loop-index.rest.now (version_rows (i + 1) 1 it.0.versions) (table_rows (i + 1 + 1) (drop (i + 1) tables)) c.split_at.result.0.now c.split_at.result.1.now
          (c.loop-index.invariant.so_far same ∙ ap (table_rows (i + 1)) (drop_at tables i it.0 it.1)) size c.split_at.ensures.front c.split_at.ensures.back).1;
    }

pub returns-then-rest-versions-clause-only : goal.returns-then-rest-versions-clause-only
returns-then-rest-versions-clause-only c same =
    let i = c.loop-index.index in
    let tables = c.args.history.now.tables in
    let within : i < length tables = subst (λ n. i < n) c.scope_count-index-end.ensures.is c.loop-index-test.true in
    let it = versions_there tables i within in
    let many = rows_length (version_rows (i + 1)) (version_row (i + 1)) (λ k. refl) (λ k x xs. refl) 1 it.0.versions in
    let size = ap (λ (vs : List TextMap). length vs) (c.versions_at-versions.ensures ∙ it.2) in
    let whole = ap (λ (l : List Row). length l) (c.loop-index.invariant.so_far same ∙ ap (table_rows (i + 1)) (drop_at tables i it.0 it.1)) in
    absurd (omega (arith, whole, length-append (version_rows (i + 1) 1 it.0.versions) (table_rows (i + 1 + 1) (drop (i + 1) tables)), many, size, c.if-rest-versions.true))

pub returns-then-not-branch-clause-only : goal.returns-then-not-branch-clause-only
returns-then-not-branch-clause-only c same =
    let i = c.loop-index.index in
    let tables = c.args.history.now.tables in
    let within : i < length tables = subst (λ n. i < n) c.scope_count-index-end.ensures.is c.loop-index-test.true in
    let it = versions_there tables i within in
    let many = rows_length (version_rows (i + 1)) (version_row (i + 1)) (λ k. refl) (λ k x xs. refl) 1 it.0.versions in
    let known = c.versions_at-versions.ensures ∙ it.2 in
    let size : length c.versions_at-versions.result.now ≡ length (version_rows (i + 1) 1 it.0.versions) = ap (λ (vs : List TextMap). length vs) known ∙ sym many in
    let parts = split (length c.versions_at-versions.result.now) c.loop-index.rest.now (version_rows (i + 1) 1 it.0.versions) (table_rows (i + 1 + 1) (drop (i + 1) tables)) c.split_at.result.0.now c.split_at.result.1.now
    (c.loop-index.invariant.so_far same ∙ ap (table_rows (i + 1)) (drop_at tables i it.0 it.1)) size c.split_at.ensures.front c.split_at.ensures.back in
    sym c.if-not-branch.true ∙ c.in_ok-are_bodies.ensures.only (parts.0 ∙ ap (version_rows (i + 1) 1) (sym known))

pub returns-clause-only : goal.returns-clause-only
returns-clause-only c same =
    let i = c.loop-index.index in
    let tables = c.args.history.now.tables in
    let past : length tables ≤ i = subst (λ n. n ≤ i) c.scope_count-index-end.ensures.is c.loop-index-test.false in
    let none : c.loop-index.rest.now ≡ [] = c.loop-index.invariant.so_far same ∙ ap (table_rows (i + 1)) (drop_all i tables past) in
    c.is_empty.ensures ∙ ap (λ (l : List Row). length l == 0) none
