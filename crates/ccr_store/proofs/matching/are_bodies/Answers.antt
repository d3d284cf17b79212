use Rattle.std.proofs.Common.{◌≡◌, ℕ, pos, ◌<◌, ◌+◌, [], ◌∷◌, Some, slice_get, sym, ap, ap₂, ◌∙◌, arith, refl, length, List}
use Rattle.std.proofs.lemmas.Option.{same_Some, slice_get-get_or}
use Rattle.sqlite.specs.declared.types.Value.TheVariants.{Int, Text as Words}
use Rattle.sqlite.specs.Order.{Row}
use Rattle.ccr_history.specs.TextMap.{key_text}
use Rattle.ccr_store.specs.Rows.{version_row, version_rows}
use Rattle.ccr_store.proofs.FrontRows.{rows_length, row_there}
use Rattle.ccr_store.proofs.matching.are_bodies.Goals as goal

pub returns-then-rows-versions-clause-only : goal.returns-then-rows-versions-clause-only
returns-then-rows-versions-clause-only c same =
    absurd (c.if-rows-versions.true (ap (λ (l : List Row). length l) same ∙ rows_length (version_rows c.args.scope) (version_row c.args.scope) (λ k. refl) (λ k x xs. refl) 1 c.args.versions.now))

pub returns-then-not-is_version-clause-only : goal.returns-then-not-is_version-clause-only
returns-then-not-is_version-clause-only c same =
    let i = c.loop-row.row-index in
    let known = c.loop-row.invariant.place in
    let versions = c.args.versions.now in
    let it = row_there (version_rows c.args.scope) (version_row c.args.scope) (λ k. refl) (λ k x xs. refl) 1 versions c.args.rows.now i c.row-item.result same c.loop-row-test.true c.row-item.is in
    let within : c.loop-row.place < length versions = omega (arith, c.loop-row-test.true, c.if-rows-versions.false, known) in
    let here : it.0 ≡ c.index-versions-place.result =
    same_Some it.0 c.index-versions-place.result (sym it.1 ∙ ap (slice_get versions) (sym known) ∙ slice_get-get_or versions c.loop-row.place c.index-versions-place.result within ∙ ap Some (sym c.index-versions-place.is)) in
    let next : 1 + i ≡ c.loop-row.place + 1 = omega (arith, known) in
    let key : key_text it.0 ≡ c.as_str.result.now = ap key_text here ∙ sym (c.as_str.ensures.value ∙ c.in_ok-key.ensures.is) in
    sym c.if-not-is_version.true ∙ c.is_version.ensures.only (it.2 ∙ ap₂ (λ (n : ℕ) (t : List ℕ). Int (pos c.args.scope) ∷ Int (pos n) ∷ Words t ∷ []) next key)
