use Rattle.std.proofs.Common.{◌≡◌, ◌∙◌, ◌<◌, ◌+◌, ◌++◌, ◌∷◌, [], ℕ, List, Bool, length, map, get_or, sym, ap, subst, arith}
use Rattle.std.proofs.lemmas.List.{map-append}
use Rattle.ccr_history.specs.Pairs.{has_pair}
use Rattle.ccr_history.specs.Tables.{scope_number, versions_of}
use Rattle.ccr_history.specs.TextMap.{TextMap}
use Rattle.ccr_problem.proofs.Places.{few_in_history}
use Rattle.ccr_lines.specs.Listed.{ListedData, listed_data}
use Rattle.ccr_lines.proofs.Showing.{listed_told}
use Rattle.ccr_lines.proofs.versions.versions_listed.Goals as goal

pub overflow_cast-place : goal.overflow_cast-place
overflow_cast-place c =
    omega (
      arith,
      ap length c.versions-version-items.ensures,
      few_in_history c.args.history.now c.args.scope.now c.rules.ensures,
      c.loop-k-test.true,
    )

pub overflow_add-place : goal.overflow_add-place
overflow_add-place c =
    omega (
      arith,
      ap length c.versions-version-items.ensures,
      few_in_history c.args.history.now c.args.scope.now c.rules.ensures,
      c.loop-k-test.true,
    )

pub loop-k-preserved : goal.loop-k-preserved
loop-k-preserved c =
    let h = c.args.history.now in
    let s = c.args.scope.now in
    let off : ℕ → Bool = λ place. has_pair (scope_number s h.tables, place) h.disabled in
    let v = c.version-item.result in
    let k = c.loop-k.k in
    let old = map listed_data c.loop-k.listed.items in
    let are = c.versions-version-items.ensures in
    let within : k < length (versions_of s h.tables) = subst (λ (vs : List TextMap). k < length vs) are c.loop-k-test.true in
    let at : get_or (versions_of s h.tables) k v ≡ v = ap (λ (vs : List TextMap). get_or vs k v) (sym are) ∙ sym c.version-item.is in
    let is_off = c.is_disabled-is_disabled.ensures ∙ ap (λ n. has_pair (n, k + 1) h.disabled) c.scope_number-number.ensures in
    listed_told off (versions_of s h.tables) k v old (map listed_data c.push.new.self.items) within at c.loop-k.invariant
    (ap (λ ls. map listed_data ls) c.in_ok-push.ensures.items ∙ (map-append listed_data c.loop-k.listed.items _
    ∙ ap (λ b. old ++ record { place = k + 1; version = v; is_disabled = b } ∷ []) is_off))
