use Rattle.std.proofs.Common.{◌≡◌, ◌+◌, ℕ, suc, List, Option, None, length, take, slice_index_or, refl, ap, sym, ◌∙◌, arith}
use Rattle.ccr_choice.specs.Problem.{ProblemValue}
use Rattle.ccr_problem.specs.Passing.{with_one, with_taken}
use Rattle.ccr_problem.proofs.Takings.{afters_none, length-afters, afters_step}
use Rattle.ccr_problem.proofs.taken.keep.Goals as goal

pub loop-i-init : goal.loop-i-init
loop-i-init c = record {
  so_far = ap {B = ProblemValue} (λ xs. record { inputs = xs; jobs = c.args.index.now.problem.jobs }) (sym (afters_none c.args.index.now.problem.inputs));
  pairs = refl;
}

pub keep_one-requires-clause-input : goal.keep_one-requires-clause-input
keep_one-requires-clause-input c =
    let so_far = ap (λ (q : ProblemValue). length q.inputs) c.loop-i.invariant.so_far in
    let same = length-afters c.args.index.now.problem.inputs (take c.loop-i.i c.args.taken.now) in
    omega (arith, so_far, same, c.loop-i-test.true, c.requires.few)

pub loop-i-preserved : goal.loop-i-preserved
loop-i-preserved c =
    let q : ProblemValue = c.args.index.now.problem in
    let i = c.loop-i.i in
    let us : List (Option ℕ) = c.args.taken.now in
    let e : suc i ≡ i + 1 = omega arith in
    let step = ap {B = ProblemValue} (λ xs. record { inputs = xs; jobs = q.jobs }) (afters_step q.inputs us i c.loop-i-test.true) in
    record {
      so_far = c.keep_one.ensures.problem ∙ ap (λ x. with_one x i (slice_index_or us i None)) c.loop-i.invariant.so_far ∙ sym step ∙ ap (λ n. with_taken q (take n us)) e;
      pairs = c.keep_one.ensures.pairs ∙ c.loop-i.invariant.pairs;
    }
