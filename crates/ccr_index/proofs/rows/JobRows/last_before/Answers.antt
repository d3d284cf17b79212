use Rattle.std.proofs.Common.{◌≡◌, ◌<◌, ◌+◌, ◌-◌, ℕ, List, length, map, get_or, ap, ◌∙◌, sym, subst, arith, rules, drop}
use Rattle.std.specs.Prelude.{Contains, slice_index_or}
use Rattle.std.proofs.lemmas.List.{get_or_default, length-reverse, length-map}
use Rattle.ccr_index.specs.declared.rows.Row.{Row}
use Rattle.ccr_index.specs.Rows.{JobRowsValue, no_build, builds_of, build_of_row, last_with, number_for}
use Rattle.ccr_index.proofs.RowLaws.{row_at, earlier_row}
use Rattle.ccr_index.proofs.rows.JobRows.last_before.Goals as goal

pub returns : goal.returns
returns c =
    let pool = c.self.inside.pairs.items in
    let rows = c.self.inside.rows.items in
    let earlier = c.self.inside.earlier.items in
    let pair : ℕ × ℕ = (c.args.scope, c.args.place) in
    let build = c.args.build in
    let at = c.place_of-at.result in
    let r : Row = c.index-row.result.now in
    let k = c.len.result - 1 - build in
    let B : JobRowsValue → Type 0 = λ v. build < length v.builds in
    let within : build < length (builds_of pool rows) = subst B (sym c.self.view_is) c.requires.build in
    let long : c.len.result ≡ length rows = search rules in
    let many : length (builds_of pool rows) ≡ length rows = length-reverse (map (build_of_row pool) rows) ∙ length-map rows (build_of_row pool) in
    let fits : k + (build + 1) ≡ length rows = omega (arith, long, many, within) in
    let here : r ≡ get_or rows k r = c.index-row.ensures in
    let back : length rows - 1 - k ≡ build = omega (arith, fits) in
    let shown : c.pairs.result.now ≡ (build_of_row pool r).pairs =
    c.pairs.ensures.value ∙ ap (λ v. (slice_index_or v.builds build no_build).pairs) (sym c.self.view_is)
    ∙ ap (λ n. (slice_index_or (builds_of pool rows) n no_build).pairs) (sym back)
    ∙ ap (λ b. b.pairs) (row_at pool rows k r (omega (arith, fits)) here) in
    let P : List (ℕ × ℕ) → Type 0 = λ xs. Contains xs pair in
    let stands = c.place_of-at.ensures (subst P (sym c.pairs.ensures.value) c.requires.has) in
    let last = earlier_row pool rows earlier (λ q. number_for c.self.inside.seen q) k at build r pair c.self.invariant.0 fits here (omega (arith, stands.0, ap length shown))
    (ap (λ xs. slice_index_or xs at (0, 0)) (sym shown) ∙ stands.1) in
    let V : JobRowsValue → Type 0 = λ v. c.index.result.now ≡ last_with (drop (build + 1) v.builds) pair in
    subst V c.self.view_is (c.index.ensures ∙ get_or_default earlier (r.from + at) _ 0 last.1 ∙ last.0)
