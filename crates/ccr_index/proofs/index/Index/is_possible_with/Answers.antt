use Rattle.std.proofs.Common.{◌≡◌, ◌≢◌, ℕ, ◌<◌, List, length, slice_index, ap, ◌∙◌, sym, subst}
use Rattle.std.specs.Prelude.{Any, Contains}
use Rattle.std.proofs.lemmas.Bool.{false≢true}
use Rattle.ccr_choice.specs.Problem.{BuildValue, input_at, builds_at}
use Rattle.ccr_index.proofs.index.Index.is_possible_with.Goals as goal

pub returns-then-not-has_passed : goal.returns-then-not-has_passed
returns-then-not-has_passed c = (
  λ t. absurd (false≢true t),
  λ h. absurd (
      let p = c.args.self.now.problem in
      let k = c.loop-name.name-index in
      let js = c.named-name-items.result.now in
      let Passed : List ℕ → Type 0 = λ js. (k : ℕ) → k < length js → slice_index js k ≢ c.args.job → Any (λ b. Contains b.pairs ((input_at p c.args.input).scope, c.args.place)) (builds_at p (slice_index js k)) in
      let passed : Passed js = subst Passed (sym c.named-name-items.ensures.value) h.passed in
      let any = passed k c.loop-name-test.true c.if-named-job.true in
      let named : c.scope-scope.result ≡ (input_at p c.args.input).scope =
      c.scope-scope.ensures ∙ ap (λ x. x.scope) c.input.ensures.value in
      let P : List BuildValue → Type 0 = λ bs. Any (λ b. Contains b.pairs (c.scope-scope.result, c.args.place)) bs in
      let Q : ℕ → Type 0 = λ s. Any (λ b. Contains b.pairs (s, c.args.place)) (builds_at p (slice_index js k)) in
      false≢true (sym c.if-not-has_passed.true ∙ c.has_passed.ensures.1 (subst P (sym c.rows.ensures.value) (subst Q (sym named) any)))
      ),
)
