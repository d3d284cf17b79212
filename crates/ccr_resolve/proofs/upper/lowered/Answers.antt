use Rattle.std.proofs.Common.{◌≡◌, ◌<◌, ◌∙◌, ℕ, length, inl, inr, slice_index, slice_set, sym, subst, arith}
use Rattle.std.proofs.lemmas.Bool.{cases_lt}
use Rattle.std.proofs.lemmas.List.{get_or-set_same, get_or-set_other, length-set}
use Rattle.ccr_choice.specs.Preference.{order_of}
use Rattle.ccr_choice.specs.Possible.{IsBestPlace}
use Rattle.ccr_choice.specs.Table.{assigned}
use Rattle.ccr_resolve.proofs.upper.lowered.Goals as goal

pub loop-i-preserved : goal.loop-i-preserved
loop-i-preserved c =
    let p = c.args.index.now.problem in
    let inner = c.loop-i.inner in
    let i = c.loop-i.i in
    let v = c.lowered_place.result in
    let within : i < length inner = omega (arith, c.loop-i.invariant.0, c.loop-i-test.true, c.input_count-i-end.ensures.few) in (
      length-set inner i v ∙ c.loop-i.invariant.0,
      λ a b upper is k below.
          let Best : ℕ → ℕ → Type 0 = λ n x. IsBestPlace (order_of p) p (assigned p c.args.fixed.now) n x in
          let Q : ℕ → Type 0 = λ x. Best k x in
          let R : ℕ → Type 0 = λ n. Best n (slice_index (slice_set inner i v) n) in
          let S : ℕ → Type 0 = λ x. Best i x in
          elim (cases_lt k i) [
            | inl less ↦ subst Q (sym (get_or-set_other inner i k v 0 (λ e. omega (arith, e, less)))) (c.loop-i.invariant.1 a b upper is k less)
            | inr le ↦ (let now : k ≡ i = omega arith in subst R (sym now) (subst S (sym (get_or-set_same inner i v 0 within)) (c.lowered_place.ensures a b upper is)))
          ],
    )

pub returns : goal.returns
returns c = λ a b upper is i within. c.loop-i.invariant.1 a b upper is i (omega (arith, within, c.loop-i-test.false, c.loop-i.auto, c.input_count-i-end.ensures.value))
