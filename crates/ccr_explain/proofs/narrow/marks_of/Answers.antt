use Rattle.std.proofs.Common.{◌≡◌, ◌∙◌, ◌+◌, ◌++◌, ℕ, Bool, List, false, length, slice_index_or, take, drop, append-nil, IsTrue, sym, ap, subst, arith}
use Rattle.std.specs.Prelude.{All}
use Rattle.std.proofs.lemmas.List.{take_all, drop_all}
use Rattle.ccr_explain.specs.Cut.{build_in, AreMarked}
use Rattle.ccr_explain.proofs.NarrowLaws.{build_marked}
use Rattle.ccr_explain.proofs.Steps.{all_taken}
use Rattle.ccr_explain.proofs.narrow.marks_of.Goals as goal

pub loop-k-preserved : goal.loop-k-preserved
loop-k-preserved c =
    let scope = c.args.scope in
    let ks = c.args.builds.now in
    let i = c.loop-k.k-index in
    let pairs_of : ℕ → List (ℕ × ℕ) = λ k. (build_in c.args.rows.now.builds k).pairs in
    let before = c.loop-k.marks.items in
    let after = c.mark_pairs.new.marks in
    let count = c.loop-k.marks.len in
    let long : length after ≡ length before = c.mark_pairs.ensures.length ∙ ap length c.deref_mut.ensures.value in
    let same : take count (after ++ drop (length after) before) ≡ after =
    ap (λ ys. take count (after ++ ys)) (drop_all (length after) before (omega (arith, long)))
    ∙ ap (take count) (append-nil after) ∙ take_all count after (omega (arith, c.mark_pairs.ensures.length, c.deref_mut.ensures.len)) in
    let K : List Bool → Type 0 = λ marks. (n : ℕ) → IsTrue (slice_index_or marks n false) → IsTrue (slice_index_or after n false) in
    let H : List (ℕ × ℕ) → Type 0 = λ pairs. AreMarked scope after pairs in
    let P : List Bool → Type 0 = λ marks. All (λ k. AreMarked scope marks (pairs_of k)) (take (i + 1) ks) in
    record {
      long = ap length same ∙ long ∙ c.loop-k.invariant.long;
      marked = subst P (sym same) (build_marked pairs_of scope before after ks i 0 c.loop-k-test.true long (subst K c.deref_mut.ensures.value c.mark_pairs.ensures.kept)
          (subst H c.pairs.ensures.value c.mark_pairs.ensures.marked) c.loop-k.invariant.marked);
    }

pub returns-clause-marked : goal.returns-clause-marked
returns-clause-marked c =
    all_taken (λ k. AreMarked c.args.scope c.loop-k.marks.items (build_in c.args.rows.now.builds k).pairs) c.args.builds.now c.loop-k.k-index (omega arith) c.loop-k.invariant.marked
