use Rattle.std.proofs.Common.{◌≡◌, ℕ, ◌+◌, ◌<◌, List, Option, None, true, false, length, sym, ap, ap₂, ◌∙◌, subst}
use Rattle.std.specs.Option.{option_or}
use Rattle.std.proofs.lemmas.List.{length_push}
use Rattle.ccr_layout.specs.declared.mean.Mean.{Mean}
use Rattle.ccr_layout.specs.Means.{mean_got, AreAdded}
use Rattle.ccr_layout.specs.Wishes.{wish_in, counts_left, left_mean, left_wish}
use Rattle.ccr_layout.proofs.StepLaws.{push_more}
use Rattle.ccr_layout.proofs.wish.wishes_left.Goals as goal

pub loop-node-preserved : goal.loop-node-preserved
loop-node-preserved c =
    let lines = c.args.lines.now in
    let middles = c.args.middles.now in
    let i = c.loop-node.node in
    let old = c.loop-node.wishes.items in
    let n = length middles in
    let T : List Mean → Type 0 = λ ms. AreAdded (counts_left false) (λ x. x.to) (left_mean middles) lines n ms in
    let A : List Mean → Type 0 = λ ms. AreAdded (counts_left true) (λ x. x.to) (left_mean middles) lines n ms in
    let triggers : AreAdded (counts_left false) (λ x. x.to) (left_mean middles) lines n c.as_slice-triggers.result.now = subst T (sym c.as_slice-triggers.ensures.value) c.in_ok-triggers.ensures in
    let all : AreAdded (counts_left true) (λ x. x.to) (left_mean middles) lines n c.as_slice-all.result.now = subst A (sym c.as_slice-all.ensures.value) c.in_ok-all.ensures in
    let new : c.first_mean-wish.result ≡ left_wish middles lines i =
    c.first_mean-wish.ensures ∙ ap₂ (λ s t. option_or (mean_got s) (mean_got t)) (c.mean_at.ensures ∙ triggers.each i c.loop-node-test.true) (c.mean_at-in-loop-node.ensures ∙ all.each i c.loop-node-test.true) in
    let L : List (Option ℕ) → Type 0 = λ ws. (k : ℕ) → k < i + 1 → wish_in ws k ≡ left_wish middles lines k in
    record {
      long = ap length c.in_ok-push.ensures.items ∙ length_push old c.first_mean-wish.result ∙ ap (λ m. m + 1) c.loop-node.invariant.long;
      each = subst L (sym c.in_ok-push.ensures.items) (push_more (λ k y. y ≡ left_wish middles lines k) old c.first_mean-wish.result None i c.loop-node.invariant.long c.loop-node.invariant.each new);
    }
