use Rattle.std.proofs.Common.{◌≡◌, ◌∙◌, ◌+◌, ◌-◌, ◌<◌, ℕ, true, length, slice_set, refl, arith}
use Rattle.std.proofs.lemmas.List.{length-set}
use Rattle.ccr_explain.proofs.PairLaws.{marked_first, marked_next, marked_last, mark_stays}
use Rattle.ccr_explain.proofs.useful.mark_builds.Goals as goal

pub loop-init : goal.loop-init
loop-init c =
    let so = marked_first c.args.rows.now.builds (c.args.scope, c.args.place) c.args.marks.now.items c.last_with-left.result c.last_with-left.ensures in
    record { long = c.requires; below = omega (arith, so.within); marked = so; kept = λ n h. h }

pub returns-then-left-eq0-clause-marked : goal.returns-then-left-eq0-clause-marked
returns-then-left-eq0-clause-marked c =
    marked_last c.args.rows.now.builds (c.args.scope, c.args.place) c.loop.marks.items c.loop.left (omega (arith, c.if-left-eq0.true)) c.loop.invariant.marked

pub loop-preserved : goal.loop-preserved
loop-preserved c =
    let bs = c.args.rows.now.builds in
    let pair : ℕ × ℕ = (c.args.scope, c.args.place) in
    let marks = c.loop.marks.items in
    let k = c.len.result - c.loop.left in
    let so = c.loop.invariant.marked in
    let some : 0 < c.loop.left = omega (arith, c.if-left-eq0.false) in
    let at : k + c.loop.left ≡ length bs = omega (arith, c.len.ensures, so.within) in
    let inside : k < length marks = omega (arith, c.loop.invariant.long, at, some) in
    let next = marked_next bs pair marks (slice_set marks k true) c.loop.left c.last_before-left.result k so some at inside refl c.last_before-left.ensures in
    record {
      long = length-set marks k true ∙ c.loop.invariant.long;
      below = omega (arith, next.fewer, c.loop.invariant.below);
      marked = next.marked;
      kept = λ n h. mark_stays marks k n inside (c.loop.invariant.kept n h);
    }

pub returns-clause-marked : goal.returns-clause-marked
returns-clause-marked c =
    marked_last c.args.rows.now.builds (c.args.scope, c.args.place) c.loop.marks.items c.loop.left (omega (arith, c.loop.invariant.below, c.loop-test.false, c.len-end.ensures)) c.loop.invariant.marked
