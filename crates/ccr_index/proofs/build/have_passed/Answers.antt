use Rattle.std.proofs.Common.{◌≡◌, ◌<◌, ◌∙◌, ℕ, List, length, slice_index, refl, sym, ap, subst, arith, below_more}
use Rattle.std.specs.Prelude.{Any, Contains}
use Rattle.std.proofs.lemmas.Bool.{false≢true}
use Rattle.ccr_choice.specs.Problem.{BuildValue, input_at, builds_at}
use Rattle.ccr_choice.specs.Assignment.{nothing_fixed}
use Rattle.ccr_choice.specs.Possible.{CanHavePassed}
use Rattle.ccr_choice.proofs.Places.{input_is}
use Rattle.ccr_index.proofs.IndexLaws.{rows_are}
use Rattle.ccr_index.proofs.build.have_passed.Goals as goal

pub returns-then-not-has_passed : goal.returns-then-not-has_passed
returns-then-not-has_passed c = (
  λ t. absurd (false≢true t),
  λ h. absurd (
      let p = c.args.problem.now in
      let i = c.args.input in
      let k = c.loop-job.job-index in
      let js = c.named-job-items.result.now in
      let named : c.scope-scope.result ≡ (input_at p i).scope = c.scope-scope.ensures ∙ ap (λ x. x.scope) (input_is p c.inputs.result.now i c.index-inputs-input.result c.inputs.ensures.value c.requires.input c.index-inputs-input.is) in
      let Passed : List ℕ → Type 0 = λ ys. (m : ℕ) → m < length ys → Any (λ b. Contains b.pairs ((input_at p i).scope, c.args.place)) (builds_at p (slice_index ys m)) in
      let passed : Passed js = subst Passed (sym c.named-job-items.ensures.value) h in
      let same = rows_are p c.args.jobs.now c.requires.jobs (slice_index js k) c.index-jobs-job.result (c.named-job-items.ensures.below k c.loop-job-test.true) c.index-jobs-job.is in
      let P : List BuildValue → Type 0 = λ bs. Any (λ b. Contains b.pairs (c.scope-scope.result, c.args.place)) bs in
      let Q : ℕ → Type 0 = λ s. Any (λ b. Contains b.pairs (s, c.args.place)) (builds_at p (slice_index js k)) in
      false≢true (sym c.if-not-has_passed.true ∙ c.has_passed.ensures.1 (subst P (sym same) (subst Q (sym named) (passed k c.loop-job-test.true))))
      ),
)

pub loop-job-preserved : goal.loop-job-preserved
loop-job-preserved c =
    let p = c.args.problem.now in
    let k = c.loop-job.job-index in
    let js = c.named-job-items.result.now in
    let same = rows_are p c.args.jobs.now c.requires.jobs (slice_index js k) c.index-jobs-job.result (c.named-job-items.ensures.below k c.loop-job-test.true) c.index-jobs-job.is in
    let P : List BuildValue → Type 0 = λ bs. Any (λ b. Contains b.pairs (c.scope-scope.result, c.args.place)) bs in
    let R : List ℕ → Type 0 = λ ys. P (builds_at p (slice_index ys k)) in
    below_more _ _ c.loop-job.invariant (subst R c.named-job-items.ensures.value (subst P same (c.has_passed.ensures.0 c.if-not-has_passed.false)))

pub returns : goal.returns
returns c = (
  λ t k within.
      let p = c.args.problem.now in
      let i = c.args.input in
      let named : c.scope-scope.result ≡ (input_at p i).scope = c.scope-scope.ensures ∙ ap (λ x. x.scope) (input_is p c.inputs.result.now i c.index-inputs-input.result c.inputs.ensures.value c.requires.input c.index-inputs-input.is) in
      let Q : ℕ → Type 0 = λ s. CanHavePassed p nothing_fixed (s, c.args.place) (slice_index (input_at p i).jobs k) in
      subst Q named (c.loop-job.invariant k (omega (arith, within, c.loop-job-test.false, ap length c.named-job-items.ensures.value))),
  λ h. refl,
)
