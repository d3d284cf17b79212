use Rattle.std.proofs.Common.{◌≡◌, ◌≤◌, ◌<◌, ◌∙◌, ℕ, Option, length, map, ap, sym, subst, arith, rules, IsTrue, All}
use Rattle.std.specs.Prelude.{unwrap_or, slice_index_or, Contains}
use Rattle.std.proofs.lemmas.List.{length-map, length-reverse}
use Rattle.ccr_index.specs.Rows.{JobRowsValue, no_build, size_for, builds_of, build_of_row}
use Rattle.ccr_index.specs.Alike.{does_count, counting, AreAmong, print_of, row_for}
use Rattle.ccr_index.proofs.RowLaws.{builds_rise}
use Rattle.ccr_index.proofs.AlikeLaws.{none_alike}
use Rattle.ccr_index.proofs.rows.JobRows.newest_alike.Goals as goal

pub returns-then-has_small-clause-none : goal.returns-then-has_small-clause-none
returns-then-has_small-clause-none c =
    let pool = c.self.inside.pairs.items in
    let rows = c.self.inside.rows.items in
    let scopes = c.self.inside.scopes in
    let bs = builds_of pool rows in
    let build = c.args.build in
    let n = c.print_of-print.result.number in
    let B : JobRowsValue → Type 0 = λ v. build < length v.builds in
    let within : build < length bs = subst B (sym c.self.view_is) c.requires in
    let shown = c.pairs.ensures.value ∙ ap (λ v. (slice_index_or v.builds build no_build).pairs) (sym c.self.view_is) in
    let last : c.unwrap_or-last.result ≡ row_for c.self.inside.prints n = c.unwrap_or-last.ensures ∙ ap (λ (o : Option ℕ). unwrap_or o 0) (c.copied.ensures ∙ c.get.ensures.value) in
    let long : c.len.result ≡ length rows = search rules in
    let many : length bs ≡ length rows = length-reverse (map (build_of_row pool) rows) ∙ length-map rows (build_of_row pool) in
    let V : JobRowsValue → Type 0 = λ v. (q : ℕ) → q < build → AreAmong v.scopes (slice_index_or v.builds build no_build).pairs (slice_index_or v.builds q no_build).pairs → ⊥ in
    let S : JobRowsValue → Type 0 = λ v. (x : ℕ × ℕ) × Contains (slice_index_or v.builds build no_build).pairs x × IsTrue (does_count v.scopes x.0)
    × All (λ b. Contains b.pairs x → length (counting v.scopes b.pairs) ≤ c.print_of-print.result.size) v.builds in
    let x = subst S (sym c.self.view_is) (c.has_small.ensures c.if-has_small.true) in
    subst V c.self.view_is (none_alike scopes bs (λ m. row_for c.self.inside.prints m) (λ pair. size_for c.self.inside.seen pair) c.self.invariant.1 (builds_rise pool rows c.self.invariant.0.each) build n c.print_of-print.result.size within
    (c.print_of-print.ensures.number ∙ ap (λ ps. print_of 0 (counting scopes ps)) shown)
    (c.print_of-print.ensures.size ∙ ap (λ ps. length (counting scopes ps)) shown)
    (omega (arith, c.saturating_sub-alike.ensures, long, many, last, c.if-alike-build.true))
    x.0 x.1 x.2 x.3)
