use Rattle.std.proofs.Common.{◌≡◌, ℕ, ◌+◌, ◌-◌, ◌/◌, ◌<◌, List, Option, None, length, cond, eqb, sym, ap, ap₂, ◌∙◌, subst, arith}
use Rattle.std.specs.Prelude.{option_map}
use Rattle.std.specs.List.{list_any}
use Rattle.std.proofs.lemmas.List.{length_push}
use Rattle.ccr_layout.specs.Means.{nothing, mean_got, mean_in}
use Rattle.ccr_layout.specs.Wishes.{wish_in, right_added, right_wish}
use Rattle.ccr_layout.proofs.StepLaws.{push_more}
use Rattle.ccr_layout.proofs.wish.wishes_right.Goals as goal

pub loop-node-preserved : goal.loop-node-preserved
loop-node-preserved c =
    let arriving = c.args.arriving.now in
    let leaving = c.args.leaving.now in
    let tops = c.args.tops.now in
    let heights = c.args.heights.now in
    let i = c.loop-node.node in
    let old = c.loop-node.wishes.items in
    let are = c.in_ok-levels.ensures in
    let level : mean_in c.as_slice-levels.result.now i ≡ right_added arriving leaving tops i =
    ap (λ ms. mean_in ms i) c.as_slice-levels.ensures.value ∙ (c.clear_arriving.ensures.each i (omega (arith, c.loop-node-test.true, are.long))
    ∙ ap (λ m. cond (list_any (λ x. eqb x.to i) arriving) nothing m) (are.each i c.loop-node-test.true)) in
    let new : c.top_for-wish.result ≡ right_wish arriving leaving tops heights i =
    c.top_for-wish.ensures ∙ ap₂ (λ h o. option_map (λ l. l - h / 2) o) c.at.ensures (c.get.ensures ∙ ap mean_got (c.mean_at.ensures ∙ level)) in
    let L : List (Option ℕ) → Type 0 = λ ws. (k : ℕ) → k < i + 1 → wish_in ws k ≡ right_wish arriving leaving tops heights k in
    record {
      long = ap length c.in_ok-push.ensures.items ∙ length_push old c.top_for-wish.result ∙ ap (λ m. m + 1) c.loop-node.invariant.long;
      each = subst L (sym c.in_ok-push.ensures.items) (push_more (λ k y. y ≡ right_wish arriving leaving tops heights k) old c.top_for-wish.result None i c.loop-node.invariant.long c.loop-node.invariant.each new);
    }
