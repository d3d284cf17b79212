use Rattle.std.proofs.Common.{◌≡◌, ◌∙◌, ℕ, inl, inr, slice_index, subst, refl, sym, arith}
use Rattle.std.proofs.lemmas.Bool.{cases_lt}
use Rattle.ccr_choice.specs.Possible.{IsBestPlace}
use Rattle.ccr_choice.specs.Preference.{order_of}
use Rattle.ccr_choice.specs.Table.{assigned}
use Rattle.ccr_choice.proofs.Orders.{is_order}
use Rattle.ccr_choice.proofs.PossibleLaws.{best_place_is}
use Rattle.ccr_resolve.proofs.newest.are_kept.Goals as goal

pub returns-then-greatest_at-upper : goal.returns-then-greatest_at-upper
returns-then-greatest_at-upper c =
    let p = c.args.index.now.problem in
    let a = assigned p c.args.fixed.now in
    let i = c.loop-i.i in (
      λ t. absurd (cc (t)),
      λ are.
          let mine = best_place_is (order_of p) (is_order p) p a i _ c.greatest_at.ensures in
          let theirs = best_place_is (order_of p) (is_order p) p a i _ (are i (omega (arith, c.loop-i-test.true, c.input_count-i-end.ensures.value))) in
          absurd (let e = c.if-greatest_at-upper.true in let f = mine ∙ sym theirs in omega (arith, e, f)),
    )

pub returns : goal.returns
returns c = (λ t i within. c.loop-i.invariant i (omega (arith, within, c.loop-i-test.false, c.input_count-i-end.ensures.value)), λ h. refl)

pub loop-i-preserved : goal.loop-i-preserved
loop-i-preserved c = λ k below.
    let p = c.args.index.now.problem in
    let i = c.loop-i.i in
    let R : ℕ → Type 0 = λ n. IsBestPlace (order_of p) p (assigned p c.args.fixed.now) n (slice_index c.args.upper.now n) in
    let S : ℕ → Type 0 = λ x. IsBestPlace (order_of p) p (assigned p c.args.fixed.now) i x in
    let same : c.greatest_at.result ≡ slice_index c.args.upper.now i = omega (arith, c.if-greatest_at-upper.false) in
    elim (cases_lt k i) [
      | inl less ↦ c.loop-i.invariant k less
      | inr le ↦ (let now : k ≡ i = omega (arith, below, le) in subst R (sym now) (subst S same c.greatest_at.ensures))
    ]
