use Rattle.std.proofs.Common.{◌≡◌, Err, ◌-◌, ◌<◌, ◌∙◌, [], ap, sym, length, None, unwrap_or, arith}
use Rattle.std.specs.Map.{lookup}
use Rattle.indexmap.specs.IndexMap.{insert_entry}
use Rattle.ccr_history.specs.Scopes.{is_scope}
use Rattle.ccr_history.specs.Tables.{scope_number, tables_of, with_versions, reported, new_count}
use Rattle.ccr_history.proofs.Results.{same_fault}
use Rattle.ccr_history.proofs.VersionLists.{with_versions-some}
use Rattle.ccr_history.proofs.TableEntries.{put, found, added_tables, reported-entries, new_count-entries, fits, too_many_scopes, too_many_versions}
use Rattle.ccr_history.proofs.Numbers.{lookup-unnumbered}
use Rattle.ccr_history.proofs.tables.Tables.add_table.Goals as goal

pub returns-then-len-ge-MOST_SCOPES-clause-full : goal.returns-then-len-ge-MOST_SCOPES-clause-full
returns-then-len-ge-MOST_SCOPES-clause-full c = λ _.
    let es = c.self.inside.tables.entries in
    let k = c.args.scope.now in
    let none : lookup (is_scope k) es ≡ None = lookup-unnumbered k es (ap (scope_number k) c.self.view_is ∙ c.requires.new) in
    rw (← c.self.view_is) (too_many_scopes k c.args.versions.now es c.requires.some (rw none (omega (arith, c.len.ensures.len))))

pub returns-in_err-count-clause-full : goal.returns-in_err-count-clause-full
returns-in_err-count-clause-full c = λ is.
    let es = c.self.inside.tables.entries in
    let k = c.args.scope.now in
    let vs = c.args.versions.now in
    let none : lookup (is_scope k) es ≡ None = lookup-unnumbered k es (ap (scope_number k) c.self.view_is ∙ c.requires.new) in
    let before : c.new-table.result ≡ found k es = c.new-table.ensures ∙ sym (ap (λ o. unwrap_or o []) none) in
    let many = c.in_err-count.ensures.full (ap Err (same_fault c.from_residual.result _ _ c.from_residual.ensures.1 is)) in
    rw (← c.self.view_is) (too_many_versions k vs es c.requires.some (rw (← before) many))

pub invariant_of-self-2 : goal.invariant_of-self-2
invariant_of-self-2 c =
    let es = c.self.inside.tables.entries in
    let k = c.args.scope.now in
    let w = c.append.new.self in
    let none : lookup (is_scope k) es ≡ None = lookup-unnumbered k es (ap (scope_number k) c.self.view_is ∙ c.requires.new) in
    let some : 0 < length w = rw c.in_ok-count.ensures.ok (with_versions-some c.new-table.result c.args.versions.now c.requires.some) in
    added_tables k w es c.insert.new.self.entries none (omega (arith, c.len.ensures.len)) (c.in_ok-insert.ensures.entries ∙ ap (λ s. insert_entry is_scope es s w) c.in_ok-copy.ensures)
    c.in_ok-insert.ensures.unique some c.in_ok-count.ensures.kept c.self.invariant

pub returns-clause-kept : goal.returns-clause-kept
returns-clause-kept c =
    let es = c.self.inside.tables.entries in
    let k = c.args.scope.now in
    let w = c.append.new.self in
    let none : lookup (is_scope k) es ≡ None = lookup-unnumbered k es (ap (scope_number k) c.self.view_is ∙ c.requires.new) in
    let some : 0 < length w = rw c.in_ok-count.ensures.ok (with_versions-some c.new-table.result c.args.versions.now c.requires.some) in
    added_tables k w es c.insert.new.self.entries none (omega (arith, c.len.ensures.len)) (c.in_ok-insert.ensures.entries ∙ ap (λ s. insert_entry is_scope es s w) c.in_ok-copy.ensures)
    c.in_ok-insert.ensures.unique some c.in_ok-count.ensures.kept c.self.invariant

pub returns-clause-ok : goal.returns-clause-ok
returns-clause-ok c =
    let es = c.self.inside.tables.entries in
    let k = c.args.scope.now in
    let vs = c.args.versions.now in
    let w = c.append.new.self in
    let none : lookup (is_scope k) es ≡ None = lookup-unnumbered k es (ap (scope_number k) c.self.view_is ∙ c.requires.new) in
    let before : c.new-table.result ≡ found k es = c.new-table.ensures ∙ sym (ap (λ o. unwrap_or o []) none) in
    ap tables_of (c.in_ok-insert.ensures.entries ∙ ap (λ s. insert_entry is_scope es s w) c.in_ok-copy.ensures)
    ∙ ap (λ v. tables_of (put k v es)) (c.in_ok-count.ensures.ok ∙ ap (λ l. with_versions l vs) before)
    ∙ sym (reported-entries k vs es c.requires.some) ∙ ap (reported k vs) c.self.view_is

pub returns-clause-count : goal.returns-clause-count
returns-clause-count c =
    let es = c.self.inside.tables.entries in
    let k = c.args.scope.now in
    let vs = c.args.versions.now in
    let none : lookup (is_scope k) es ≡ None = lookup-unnumbered k es (ap (scope_number k) c.self.view_is ∙ c.requires.new) in
    let before : c.new-table.result ≡ found k es = c.new-table.ensures ∙ sym (ap (λ o. unwrap_or o []) none) in
    c.in_ok-count.ensures.count ∙ ap (λ l. length l - length c.new-table.result) c.in_ok-count.ensures.ok
    ∙ ap (λ l. length (with_versions l vs) - length l) before ∙ sym (new_count-entries k vs es c.requires.some) ∙ ap (new_count k vs) c.self.view_is

pub returns-clause-fits : goal.returns-clause-fits
returns-clause-fits c =
    let es = c.self.inside.tables.entries in
    let k = c.args.scope.now in
    let vs = c.args.versions.now in
    let none : lookup (is_scope k) es ≡ None = lookup-unnumbered k es (ap (scope_number k) c.self.view_is ∙ c.requires.new) in
    let before : c.new-table.result ≡ found k es = c.new-table.ensures ∙ sym (ap (λ o. unwrap_or o []) none) in
    let added = c.in_ok-count.ensures.ok ∙ ap (λ l. with_versions l vs) before in
    rw (← c.self.view_is) (fits k vs es c.requires.some (rw (← added) c.in_ok-count.ensures.kept.0) (rw none (omega (arith, c.len.ensures.len, c.if-len-ge-MOST_SCOPES.false))))
