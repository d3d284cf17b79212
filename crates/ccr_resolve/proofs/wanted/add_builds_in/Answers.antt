use Rattle.std.proofs.Common.{ℕ, ap, subst, arith}
use Rattle.std.specs.Prelude.{not}
use Rattle.ccr_resolve.specs.Sought.{HasAll, span_place}
use Rattle.ccr_resolve.proofs.WantedLaws.{span_next, span_end}
use Rattle.ccr_resolve.proofs.wanted.add_builds_in.Goals as goal

pub loop-step-preserved : goal.loop-step-preserved
loop-step-preserved c =
    let bs = c.args.rows.now.builds in
    let scope = c.args.scope in
    let more = c.add_builds_with.new.builds.items in
    let P : ℕ → Type 0 = λ n. HasAll bs (scope, n) more in
    let new : P (span_place c.args.span c.loop-step.step) = subst P c.place.ensures (c.in_ok-add_builds_with.ensures.all (ap not c.if-branch.false)) in (
      c.add_builds_with.ensures.within,
      c.add_builds_with.ensures.few,
      λ k h. c.add_builds_with.ensures.kept k (c.loop-step.invariant.2 k h),
      span_next bs scope c.args.span c.loop-step.step c.loop-step.builds.items more c.loop-step.invariant.3 c.add_builds_with.ensures.kept new,
    )

pub returns-clause-all : goal.returns-clause-all
returns-clause-all c = λ done. span_end c.args.rows.now.builds c.args.scope c.args.span c.loop-step.step c.loop-step.builds.items c.loop-step.invariant.3 (omega (arith, c.loop-step-test.false, c.len-step-end.ensures.value))
