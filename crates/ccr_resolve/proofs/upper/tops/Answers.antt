use Rattle.std.proofs.Common.{◌≡◌, ◌<◌, ◌∙◌, ℕ, length, inl, inr, slice_index, slice_set, sym, subst, arith}
use Rattle.std.proofs.lemmas.Bool.{cases_lt}
use Rattle.std.proofs.lemmas.List.{get_or-set_same, get_or-set_other, length-set}
use Rattle.ccr_choice.specs.Preference.{order_of}
use Rattle.ccr_choice.specs.Assignment.{nothing_fixed}
use Rattle.ccr_choice.specs.Possible.{IsBestPlace}
use Rattle.ccr_resolve.proofs.upper.tops.Goals as goal

pub loop-i-preserved : goal.loop-i-preserved
loop-i-preserved c =
    let p = c.args.index.now.problem in
    let upper = c.loop-i.upper in
    let i = c.loop-i.i in
    let v = c.top.result in
    let within : i < length upper = omega (arith, c.loop-i.invariant.0, c.loop-i-test.true, c.input_count-i-end.ensures.few) in (
      length-set upper i v ∙ c.loop-i.invariant.0,
      λ k below.
          let Top : ℕ → ℕ → Type 0 = λ n x. IsBestPlace (order_of p) p nothing_fixed n x in
          let Q : ℕ → Type 0 = λ x. Top k x in
          let R : ℕ → Type 0 = λ n. Top n (slice_index (slice_set upper i v) n) in
          let S : ℕ → Type 0 = λ x. Top i x in
          elim (cases_lt k i) [
            | inl less ↦ subst Q (sym (get_or-set_other upper i k v 0 (λ e. omega (arith, e, less)))) (c.loop-i.invariant.1 k less)
            | inr le ↦ (let now : k ≡ i = omega arith in subst R (sym now) (subst S (sym (get_or-set_same upper i v 0 within)) c.top.ensures))
          ],
    )

pub returns : goal.returns
returns c = λ i within. c.loop-i.invariant.1 i (omega (arith, within, c.loop-i-test.false, c.loop-i.auto, c.input_count-i-end.ensures.value))
