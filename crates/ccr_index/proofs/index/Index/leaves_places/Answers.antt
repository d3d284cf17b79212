use Rattle.std.proofs.Common.{◌<◌, ℕ, List, length, subst, arith}
use Rattle.std.specs.Prelude.{Contains}
use Rattle.std.proofs.lemmas.Bool.{false≢true}
use Rattle.ccr_choice.specs.Preference.{order_of}
use Rattle.ccr_choice.specs.Table.{assigned}
use Rattle.ccr_index.proofs.BestLaws.{best_zero}
use Rattle.ccr_index.proofs.index.Index.leaves_places.Goals as goal

pub returns-then-greatest_at-eq0 : goal.returns-then-greatest_at-eq0
returns-then-greatest_at-eq0 c = (
  λ t. absurd (false≢true t),
  λ h. absurd (
      let p = c.args.self.now.problem in
      let i = c.loop-i.i in
      let P : List ℕ → Type 0 = λ js. Contains js c.args.job in
      let inside : i < length p.inputs = omega (arith, c.loop-i-test.true, c.input_count-i-end.ensures.value) in
      let some = h i inside (subst P c.named.ensures.value (c.names.ensures.0 c.if-names.true)) in
      best_zero (order_of p) p (assigned p c.args.fixed.now) i c.greatest_at.result c.input_count-i-end.ensures.kept inside c.greatest_at.ensures c.if-greatest_at-eq0.true some.0 some.1
      ),
)
