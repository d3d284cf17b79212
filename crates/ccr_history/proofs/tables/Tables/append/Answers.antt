use Rattle.std.proofs.Common.{◌≡◌, ◌-◌, ◌<◌, ◌∙◌, [], ap, sym, length, Some, eqb-true, arith}
use Rattle.std.proofs.lemmas.Bool.{eqb-false}
use Rattle.std.proofs.lemmas.List.{nil_from_length}
use Rattle.std.proofs.lemmas.Result.{on_ok_weaker, on_err_weaker}
use Rattle.std.specs.Map.{lookup}
use Rattle.ccr_history.specs.Scopes.{is_scope}
use Rattle.ccr_history.specs.Tables.{tables_of, with_versions, reported, new_count}
use Rattle.ccr_history.proofs.Numbers.{number_of, scope_number-entries}
use Rattle.ccr_history.proofs.Results.{both_ok}
use Rattle.ccr_history.proofs.TableEntries.{table-found, nothing_full, written_tables, written, written_count, written_fits, written_full, written_same}
use Rattle.ccr_history.proofs.tables.Tables.append.Goals as goal

pub returns-then-is_empty-clause-fits : goal.returns-then-is_empty-clause-fits
returns-then-is_empty-clause-fits c =
    let none : c.args.versions.now ≡ [] = nil_from_length c.args.versions.now (eqb-true (length c.args.versions.now) 0 (sym c.is_empty.ensures ∙ c.if-is_empty.true)) in
    rw (none, ← c.self.view_is) (nothing_full c.args.scope.now (tables_of c.self.inside.tables.entries) c.self.invariant)

pub invariant_of-self : goal.invariant_of-self
invariant_of-self c =
    let es = c.self.inside.tables.entries in
    let k = c.args.scope.now in
    let v = c.index_mut.result.now in
    let here : lookup (is_scope k) es ≡ Some v = sym c.in-Some.ensures.value ∙ c.index_mut.ensures.value in
    let some : 0 < length v = (table-found k v es c.self.invariant.2 here).1.0 in
    written_tables k c.in-Some.index v c.append.new.self es (sym c.in-Some.ensures.index) here c.in-Some.ensures.unique (omega (arith, some, c.append.ensures.longer)) c.append.ensures.kept c.self.invariant

pub returns-in-Some-clause-kept : goal.returns-in-Some-clause-kept
returns-in-Some-clause-kept c =
    let es = c.self.inside.tables.entries in
    let k = c.args.scope.now in
    let v = c.index_mut.result.now in
    let here : lookup (is_scope k) es ≡ Some v = sym c.in-Some.ensures.value ∙ c.index_mut.ensures.value in
    let some : 0 < length v = (table-found k v es c.self.invariant.2 here).1.0 in
    written_tables k c.in-Some.index v c.append.new.self es (sym c.in-Some.ensures.index) here c.in-Some.ensures.unique (omega (arith, some, c.append.ensures.longer)) c.append.ensures.kept c.self.invariant

pub add_table-requires-clause-new : goal.add_table-requires-clause-new
add_table-requires-clause-new c =
    let k = c.args.scope.now in
    rw (← c.self.view_is) (scope_number-entries k c.self.inside.tables.entries ∙ sym (ap number_of c.in-None.ensures.index))

pub returns-in-Some-clause-ok : goal.returns-in-Some-clause-ok
returns-in-Some-clause-ok c =
    let es = c.self.inside.tables.entries in
    let k = c.args.scope.now in
    let vs = c.args.versions.now in
    let none : length vs ≡ 0 → ⊥ = eqb-false (length vs) 0 (sym c.is_empty.ensures ∙ c.if-is_empty.false) in
    let here : lookup (is_scope k) es ≡ Some c.index_mut.result.now = sym c.in-Some.ensures.value ∙ c.index_mut.ensures.value in
    on_ok_weaker c.append.result (λ is. written k vs es (omega (arith, none)) c.in-Some.index _ c.append.new.self (sym c.in-Some.ensures.index) here is ∙ ap (reported k vs) c.self.view_is) c.append.ensures.ok

pub returns-in-Some-clause-count : goal.returns-in-Some-clause-count
returns-in-Some-clause-count c =
    let es = c.self.inside.tables.entries in
    let k = c.args.scope.now in
    let vs = c.args.versions.now in
    let v = c.index_mut.result.now in
    let w = c.append.new.self in
    let none : length vs ≡ 0 → ⊥ = eqb-false (length vs) 0 (sym c.is_empty.ensures ∙ c.if-is_empty.false) in
    let here : lookup (is_scope k) es ≡ Some v = sym c.in-Some.ensures.value ∙ c.index_mut.ensures.value in
    both_ok c.append.result (λ _. w ≡ with_versions v vs) (λ n. n ≡ length w - length v) (λ n. n ≡ new_count k vs c.args.self.now)
    (λ n is count. count ∙ written_count k vs es (omega (arith, none)) c.in-Some.index v w (sym c.in-Some.ensures.index) here is ∙ ap (new_count k vs) c.self.view_is)
    c.append.ensures.ok c.append.ensures.count

pub returns-in-Some-clause-fits : goal.returns-in-Some-clause-fits
returns-in-Some-clause-fits c =
    let es = c.self.inside.tables.entries in
    let k = c.args.scope.now in
    let vs = c.args.versions.now in
    let none : length vs ≡ 0 → ⊥ = eqb-false (length vs) 0 (sym c.is_empty.ensures ∙ c.if-is_empty.false) in
    let here : lookup (is_scope k) es ≡ Some c.index_mut.result.now = sym c.in-Some.ensures.value ∙ c.index_mut.ensures.value in
    rw (← c.self.view_is) (on_ok_weaker c.append.result (λ is. written_fits k vs es (omega (arith, none)) c.in-Some.index _ c.append.new.self (sym c.in-Some.ensures.index) here is c.append.ensures.kept c.self.invariant) c.append.ensures.ok)

pub returns-in-Some-clause-full : goal.returns-in-Some-clause-full
returns-in-Some-clause-full c = λ is.
    let es = c.self.inside.tables.entries in
    let k = c.args.scope.now in
    let vs = c.args.versions.now in
    let none : length vs ≡ 0 → ⊥ = eqb-false (length vs) 0 (sym c.is_empty.ensures ∙ c.if-is_empty.false) in
    let here : lookup (is_scope k) es ≡ Some c.index_mut.result.now = sym c.in-Some.ensures.value ∙ c.index_mut.ensures.value in
    rw (← c.self.view_is) (written_full k vs es (omega (arith, none)) c.in-Some.index _ c.append.new.self (sym c.in-Some.ensures.index) here (c.append.ensures.full is))

pub returns-in-Some-clause-err : goal.returns-in-Some-clause-err
returns-in-Some-clause-err c =
    let es = c.self.inside.tables.entries in
    let k = c.args.scope.now in
    let vs = c.args.versions.now in
    let none : length vs ≡ 0 → ⊥ = eqb-false (length vs) 0 (sym c.is_empty.ensures ∙ c.if-is_empty.false) in
    let here : lookup (is_scope k) es ≡ Some c.index_mut.result.now = sym c.in-Some.ensures.value ∙ c.index_mut.ensures.value in
    on_err_weaker c.append.result (λ is. written_same k vs es (omega (arith, none)) c.in-Some.index _ c.append.new.self (sym c.in-Some.ensures.index) here is ∙ c.self.view_is) c.append.ensures.err
