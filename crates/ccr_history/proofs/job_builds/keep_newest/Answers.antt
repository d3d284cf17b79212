use Rattle.std.proofs.Common.{◌≡◌, ℕ, ◌<◌, ◌+◌, ◌∙◌, List, get_or, cond, Option, Some, Result, Ok, Err, IsOk, OnOk, ap, sym, arith, length, take}
use Rattle.std.specs.Map.{lookup}
use Rattle.std.specs.Option.{option_or}
use Rattle.std.proofs.lemmas.Bool.Decides.{nat_tests}
use Rattle.std.proofs.lemmas.List.{take_more}
use Rattle.indexmap.specs.IndexMap.{spare}
use Rattle.ccr_history.specs.declared.used_row.InputScope.{InputScope}
use Rattle.ccr_history.specs.declared.used_row.UsedRow.{UsedRow}
use Rattle.ccr_history.specs.Newest.{last_given}
use Rattle.ccr_history.specs.Rows.{is_input_scope, row_if_at}
use Rattle.ccr_history.proofs.Given.{last_given-push, given_over}
use Rattle.ccr_history.proofs.job_builds.keep_newest.Goals as goal

from_ok : {T E P : Type 0} (r : Result T E) → IsOk r → OnOk r P → P
from_ok (Ok x) is h = h
from_ok (Err e) is h = absurd (cc)

flip : (s t : InputScope) → is_input_scope s t ≡ is_input_scope t s
flip s t = grind (arith, nat_tests)

abbrev none : UsedRow
none = record { input = 0; scope = 0; place = 0 }

-- one more used place
later : (s : InputScope) (used : List UsedRow) (i : ℕ) → i < length used → (new old first : Option ℕ)
    → new ≡ cond (is_input_scope (record { input = (get_or used i none).input; scope = (get_or used i none).scope }) s) (Some (get_or used i none).place) old
    → old ≡ option_or (last_given (row_if_at s) (take i used)) first
    → new ≡ option_or (last_given (row_if_at s) (take (i + 1) used)) first
later s used i within new old first is was =
    let u : UsedRow = get_or used i none in
    let key : InputScope = record { input = u.input; scope = u.scope } in
    is ∙ ap (λ b. cond b (Some u.place) old) (flip key s)
    ∙ ap (cond (is_input_scope s key) (Some u.place)) was
    ∙ given_over (is_input_scope s key) u.place (last_given (row_if_at s) (take i used)) first
    ∙ ap (λ o. option_or o first) (sym (last_given-push (row_if_at s) (take i used) u))
    ∙ ap (λ l. option_or (last_given (row_if_at s) l) first) (sym (take_more used i none within))

pub loop-one-preserved : goal.loop-one-preserved
loop-one-preserved c =
    let room : 0 < spare c.loop-one.newest = omega (arith, c.loop-one.invariant.0) in
    let updates = from_ok c.insert-kept.result (c.insert-kept.ensures.succeeds room) c.insert-kept.ensures.updates in (
      omega (arith, c.loop-one.invariant.0, c.insert-kept.ensures.spare),
      λ s. later s c.args.used.now c.loop-one.one-index c.loop-one-test.true (lookup (is_input_scope s) c.insert-kept.new.self.entries)
          (lookup (is_input_scope s) c.loop-one.newest.entries) (lookup (is_input_scope s) c.args.newest.now.entries) (updates.0 s) (c.loop-one.invariant.1 s),
    )
