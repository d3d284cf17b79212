use Rattle.std.proofs.Common.{ℕ, List, ◌∙◌, slice_index_or, ap, sym, subst, arith, All}
use Rattle.std.specs.Prelude.{Contains}
use Rattle.ccr_choice.specs.Problem.{BuildValue, builds_at}
use Rattle.ccr_choice.specs.Dominated.{IsNamedIn}
use Rattle.ccr_index.specs.Rows.{no_build}
use Rattle.ccr_index.specs.Alike.{AreAmong}
use Rattle.ccr_resolve.proofs.DominatorLaws.{dominated_among}
use Rattle.ccr_resolve.proofs.dominator.dominator.Goals as goal

pub returns-in_default : goal.returns-in_default
returns-in_default c = λ q less dominated.
    let p = c.args.index.now.problem in
    let j = c.args.job in
    let bs = builds_at p j in
    let scopes = c.rows-rows.result.now.scopes in
    let never : List BuildValue → Type 0 = λ xs. AreAmong scopes (slice_index_or xs c.args.build no_build).pairs (slice_index_or xs q no_build).pairs in
    c.in_default.ensures.none q less (subst never (sym c.rows-rows.ensures.value)
    (dominated_among p j scopes (slice_index_or bs c.args.build no_build) (slice_index_or bs q no_build) c.rows-rows.ensures.counted dominated))

pub returns-then-are_covered : goal.returns-then-are_covered
returns-then-are_covered c =
    let p = c.args.index.now.problem in
    let j = c.args.job in
    let alike = c.in-Some.alike in
    let same = c.pairs.ensures.value ∙ ap (λ xs. (slice_index_or xs c.args.build no_build).pairs) c.rows-rows.ensures.value in
    let others = c.pairs-then-alike-build.ensures.value ∙ ap (λ xs. (slice_index_or xs alike no_build).pairs) c.rows-rows.ensures.value in
    let P : List (ℕ × ℕ) → Type 0 = λ xs. All (λ q. IsNamedIn p j q.0 → Contains c.pairs-then-alike-build.result.now q) xs in
    let Q : List (ℕ × ℕ) → Type 0 = λ ys. All (λ q. IsNamedIn p j q.0 → Contains ys q) (slice_index_or (builds_at p j) c.args.build no_build).pairs in
    (omega arith, subst Q others (subst P same (c.are_covered.ensures.0 (cc (c.if-are_covered.true)))))
