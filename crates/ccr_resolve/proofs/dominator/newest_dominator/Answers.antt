use Rattle.std.proofs.Common.{ℕ, ◌+◌, ◌-◌, List, length, drop, slice_index_or, sym, ap, ◌∙◌, subst, arith, All}
use Rattle.std.specs.Prelude.{Contains}
use Rattle.std.proofs.lemmas.List.{get_or_default}
use Rattle.ccr_choice.specs.Problem.{builds_at}
use Rattle.ccr_choice.specs.Dominated.{IsNamedIn}
use Rattle.ccr_index.specs.Rows.{no_build, last_with}
use Rattle.ccr_resolve.proofs.DominatorLaws.{search_first, search_less, search_next}
use Rattle.ccr_resolve.proofs.dominator.newest_dominator.Goals as goal

pub returns-else-build-eq0 : goal.returns-else-build-eq0
returns-else-build-eq0 c =
    let p = c.args.index.now.problem in
    let j = c.args.job in
    let same = c.pairs-pairs.ensures.value ∙ ap (λ xs. (slice_index_or xs c.args.build no_build).pairs) c.rows-rows.ensures.value in
    let xs = (slice_index_or (builds_at p j) c.args.build no_build).pairs in
    let P : List (ℕ × ℕ) → Type 0 = λ ys. (q : ℕ × ℕ) → Contains ys q → IsNamedIn p j q.0 → ⊥ in
    let none : P xs = subst P same c.in_default.ensures in
    (omega arith, λ k d within named. absurd (none (slice_index_or xs k d) (k, within, get_or_default xs k (slice_index_or xs k d) d within) named))

pub loop-last-init : goal.loop-last-init
loop-last-init c =
    let p = c.args.index.now.problem in
    let j = c.args.job in
    let same = c.pairs-pairs.ensures.value ∙ ap (λ xs. (slice_index_or xs c.args.build no_build).pairs) c.rows-rows.ensures.value in
    let pair = c.in-Some.rarest in
    let P : List (ℕ × ℕ) → Type 0 = λ ys. Contains ys pair in
    search_first p j c.args.build pair (subst P same c.in-Some.ensures.0) c.in-Some.ensures.1 c.last_with-last.result (c.last_with-last.ensures ∙ ap (λ xs. last_with xs pair) c.rows-rows.ensures.value)

pub returns-then-are_covered : goal.returns-then-are_covered
returns-then-are_covered c =
    let p = c.args.index.now.problem in
    let j = c.args.job in
    let newer = c.len.result - c.loop-last.last in
    let same = c.pairs-pairs.ensures.value ∙ ap (λ xs. (slice_index_or xs c.args.build no_build).pairs) c.rows-rows.ensures.value in
    let others = c.pairs.ensures.value ∙ ap (λ xs. (slice_index_or xs newer no_build).pairs) c.rows-rows.ensures.value in
    let P : List (ℕ × ℕ) → Type 0 = λ xs. All (λ q. IsNamedIn p j q.0 → Contains c.pairs.result.now q) xs in
    let Q : List (ℕ × ℕ) → Type 0 = λ ys. All (λ q. IsNamedIn p j q.0 → Contains ys q) (slice_index_or (builds_at p j) c.args.build no_build).pairs in
    (omega arith, subst Q others (subst P same (c.are_covered.ensures.0 (cc (c.if-are_covered.true)))))

pub loop-last-smaller : goal.loop-last-smaller
loop-last-smaller c =
    let p = c.args.index.now.problem in
    let j = c.args.job in
    let newer = c.len.result - c.loop-last.last in
    let same = c.pairs-pairs.ensures.value ∙ ap (λ xs. (slice_index_or xs c.args.build no_build).pairs) c.rows-rows.ensures.value in
    let pair = c.in-Some.rarest in
    let P : List (ℕ × ℕ) → Type 0 = λ ys. Contains ys pair in
    search_less p j c.args.build pair (subst P same c.in-Some.ensures.0) c.in-Some.ensures.1 c.loop-last.last c.last_before-last.result newer c.loop-last.invariant c.loop-last-test.true
    (ap (λ n. n - c.loop-last.last) (c.len.ensures ∙ ap length c.rows-rows.ensures.value)) (c.last_before-last.ensures ∙ ap (λ xs. last_with (drop (newer + 1) xs) pair) c.rows-rows.ensures.value)

pub loop-last-preserved : goal.loop-last-preserved
loop-last-preserved c =
    let p = c.args.index.now.problem in
    let j = c.args.job in
    let newer = c.len.result - c.loop-last.last in
    let same = c.pairs-pairs.ensures.value ∙ ap (λ xs. (slice_index_or xs c.args.build no_build).pairs) c.rows-rows.ensures.value in
    let others = c.pairs.ensures.value ∙ ap (λ xs. (slice_index_or xs newer no_build).pairs) c.rows-rows.ensures.value in
    let pair = c.in-Some.rarest in
    let P : List (ℕ × ℕ) → Type 0 = λ ys. Contains ys pair in
    let Q : List (ℕ × ℕ) → Type 0 = λ xs. All (λ q. IsNamedIn p j q.0 → Contains c.pairs.result.now q) xs in
    let R : List (ℕ × ℕ) → Type 0 = λ ys. All (λ q. IsNamedIn p j q.0 → Contains ys q) (slice_index_or (builds_at p j) c.args.build no_build).pairs in
    search_next p j c.args.build pair (subst P same c.in-Some.ensures.0) c.in-Some.ensures.1 c.loop-last.last c.last_before-last.result newer c.loop-last.invariant c.loop-last-test.true
    (ap (λ n. n - c.loop-last.last) (c.len.ensures ∙ ap length c.rows-rows.ensures.value)) (c.last_before-last.ensures ∙ ap (λ xs. last_with (drop (newer + 1) xs) pair) c.rows-rows.ensures.value)
    (λ dominated. absurd (cc (c.are_covered.ensures.1 (subst Q (sym same) (subst R (sym others) dominated)), c.if-are_covered.false)))
