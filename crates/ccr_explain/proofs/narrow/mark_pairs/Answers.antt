use Rattle.std.proofs.Common.{◌≡◌, ◌∙◌, ◌+◌, ◌<◌, List, Bool, false, length, take, slice_index_or, IsTrue, refl, subst, sym, ap, arith}
use Rattle.ccr_explain.specs.Cut.{AreMarked}
use Rattle.ccr_explain.proofs.NarrowLaws.{pair_marked}
use Rattle.ccr_explain.proofs.Steps.{all_taken}
use Rattle.ccr_explain.proofs.narrow.mark_pairs.Goals.{then-pair-scope, else-pair-scope}
use Rattle.ccr_explain.proofs.narrow.mark_pairs.Goals as goal

pub loop-pair-preserved : goal.loop-pair-preserved
loop-pair-preserved c =
    let inv = c.loop-pair.invariant in
    let scope = c.args.scope in
    let before = c.loop-pair.marks in
    let pairs = c.args.pairs.now in
    let i = c.loop-pair.pair-index in
    let P : List Bool → Type 0 = λ marks. AreMarked scope marks (take (i + 1) pairs) in
    elim c.if-pair-scope.branch [
      | then-pair-scope w ↦ record {
        long = ap length w.marks-is ∙ w.mark.ensures.length ∙ inv.long;
        kept = λ n h. (let Q : List Bool → Type 0 = λ marks. IsTrue (slice_index_or marks n false) in
            subst Q (sym w.marks-is) (w.mark.ensures.kept n (inv.kept n h)));
        marked = subst P (sym w.marks-is) (pair_marked scope before w.mark.new.marks pairs i c.loop-pair-test.true w.mark.ensures.length w.mark.ensures.kept
            (λ same low. w.mark.ensures.marked low) inv.marked);
      }
      | else-pair-scope w ↦ record {
        long = ap length w.marks-is ∙ inv.long;
        kept = λ n h. (let Q : List Bool → Type 0 = λ marks. IsTrue (slice_index_or marks n false) in subst Q (sym w.marks-is) (inv.kept n h));
        marked = subst P (sym w.marks-is) (pair_marked scope before before pairs i c.loop-pair-test.true refl (λ n h. h)
            (λ same low. absurd (w.if-pair-scope.false same)) inv.marked);
      }
    ]

pub returns-clause-marked : goal.returns-clause-marked
returns-clause-marked c =
    let marks = c.loop-pair.marks in
    all_taken (λ r. r.0 ≡ c.args.scope → r.1 < length marks → IsTrue (slice_index_or marks r.1 false)) c.args.pairs.now c.loop-pair.pair-index (omega arith) c.loop-pair.invariant.marked
