use Rattle.std.proofs.Common.{◌≡◌, ◌-◌, ◌<◌, ◌≤◌, ◌∙◌, ap, sym, length, take, length-take, None, Some, arith, rules}
use Rattle.std.specs.Map.{lookup}
use Rattle.ccr_history.specs.Scopes.{is_scope}
use Rattle.ccr_history.specs.Tables.{tables_of}
use Rattle.ccr_history.proofs.TableEntries.{put, set_value_at-put, written_tables, removed_tables, missing, missing_back, all_back, some_back, back}
use Rattle.ccr_history.proofs.tables.Tables.take_back.Goals as goal

pub returns-in_default-clause-back : goal.returns-in_default-clause-back
returns-in_default-clause-back c = λ tables versions are old count.
    let es = c.self.inside.tables.entries in
    let k = c.args.scope.now in
    let none : lookup (is_scope k) es ≡ None = missing k es c.in_default.ensures.found in
    sym c.self.view_is ∙ sym (missing_back k c.args.count es none) ∙ back k c.args.count es versions tables (c.self.view_is ∙ old) are count

pub invariant_of-self : goal.invariant_of-self
invariant_of-self c =
    let es = c.self.inside.tables.entries in
    removed_tables c.args.scope.now es c.shift_remove.new.self.entries c.shift_remove.ensures.entries (omega (arith, c.shift_remove.ensures.len)) c.shift_remove.ensures.unique c.self.invariant

pub invariant_of-self-else-left-eq0 : goal.invariant_of-self-else-left-eq0
invariant_of-self-else-left-eq0 c =
    let es = c.self.inside.tables.entries in
    let v = c.index_mut.result.now in
    let here : lookup (is_scope c.args.scope.now) es ≡ Some v = sym c.in-Some.ensures.value ∙ c.index_mut.ensures.value in
    let same : c.index.result.now ≡ v = cc in
    let some : 0 < length c.truncate.new.self = omega (arith, ap length same, c.len.ensures, c.saturating_sub-left.ensures, c.if-left-eq0.false, ap length c.truncate.ensures.is, length-take c.saturating_sub-left.result v) in
    written_tables c.args.scope.now c.in-Some.index v c.truncate.new.self es (sym c.in-Some.ensures.index) here c.in-Some.ensures.unique some c.truncate.ensures.kept c.self.invariant

pub returns-then-left-eq0-clause-back : goal.returns-then-left-eq0-clause-back
returns-then-left-eq0-clause-back c = λ tables versions are old count.
    let es = c.self.inside.tables.entries in
    let k = c.args.scope.now in
    let n = c.args.count in
    let w = c.index.result.now in
    let found : lookup (is_scope k) es ≡ Some w = sym c.in-Some.ensures.value ∙ c.index.ensures in
    let all : length w ≤ n = omega arith in
    let kept : tables_of c.shift_remove.new.self.entries ≡ tables = ap tables_of c.shift_remove.ensures.entries ∙ sym (all_back k n es w found all) ∙ back k n es versions tables (c.self.view_is ∙ old) are count in
    search rules

pub returns-else-left-eq0-clause-back : goal.returns-else-left-eq0-clause-back
returns-else-left-eq0-clause-back c = λ tables versions are old count.
    let es = c.self.inside.tables.entries in
    let k = c.args.scope.now in
    let n = c.args.count in
    let w = c.index_mut.result.now in
    let found : lookup (is_scope k) es ≡ Some w = sym c.in-Some.ensures.value ∙ c.index_mut.ensures.value in
    let same : c.index.result.now ≡ w = cc in
    let left : c.saturating_sub-left.result ≡ length w - n = omega (arith, ap length same, c.len.ensures, c.saturating_sub-left.ensures) in
    let some : n < length w = omega (arith, left, c.if-left-eq0.false) in
    ap tables_of (set_value_at-put k c.in-Some.index c.truncate.new.self es (sym c.in-Some.ensures.index))
    ∙ ap (λ v. tables_of (put k v es)) (c.truncate.ensures.is ∙ ap (λ m. take m w) left)
    ∙ sym (some_back k n es w found some)
    ∙ back k n es versions tables (c.self.view_is ∙ old) are count

pub returns-then-left-eq0-clause-kept : goal.returns-then-left-eq0-clause-kept
returns-then-left-eq0-clause-kept c =
    let es = c.self.inside.tables.entries in
    let kept = removed_tables c.args.scope.now es c.shift_remove.new.self.entries c.shift_remove.ensures.entries (omega (arith, c.shift_remove.ensures.len)) c.shift_remove.ensures.unique c.self.invariant in
    search rules

pub returns-else-left-eq0-clause-kept : goal.returns-else-left-eq0-clause-kept
returns-else-left-eq0-clause-kept c =
    let es = c.self.inside.tables.entries in
    let v = c.index_mut.result.now in
    let here : lookup (is_scope c.args.scope.now) es ≡ Some v = sym c.in-Some.ensures.value ∙ c.index_mut.ensures.value in
    let same : c.index.result.now ≡ v = cc in
    let some : 0 < length c.truncate.new.self = omega (arith, ap length same, c.len.ensures, c.saturating_sub-left.ensures, c.if-left-eq0.false, ap length c.truncate.ensures.is, length-take c.saturating_sub-left.result v) in
    written_tables c.args.scope.now c.in-Some.index v c.truncate.new.self es (sym c.in-Some.ensures.index) here c.in-Some.ensures.unique some c.truncate.ensures.kept c.self.invariant
