use Rattle.std.proofs.Common.{◌≡◌, ◌<◌, ◌∙◌, true, ap, arith, sym, subst}
use Rattle.std.proofs.lemmas.Bool.{false≢true}
use Rattle.ccr_choice.specs.Preference.{order_of, prefers_after}
use Rattle.ccr_choice.specs.Assignment.{Assignment}
use Rattle.ccr_choice.proofs.TableLaws.{table_empty}
use Rattle.ccr_index.specs.Index.{HasPassed}
use Rattle.ccr_index.proofs.RuleLaws.{version_asks}
use Rattle.ccr_index.proofs.VersionLaws.{best_new, best_old}
use Rattle.ccr_index.proofs.index.Index.top_with_place.Goals.{else-is_first-via-then-is_first+else-has_passed, else-is_first-via-else-is_first}
use Rattle.ccr_index.proofs.index.Index.top_with_place.Goals as goal

pub returns-then-has_passed : goal.returns-then-has_passed
returns-then-has_passed c =
    let p = c.args.self.now.problem in
    let i = c.args.input in
    let place = c.args.place in
    let top = c.top-top.result in
    let kept = c.after.ensures ∙ ap (λ x. x.after) c.input.ensures.value in
    let first : order_of p i place top ≡ true = sym (ap (λ o. prefers_after o place top) kept) ∙ sym c.is_preferred-is_first.ensures ∙ c.if-is_first.true in
    let A : Assignment → Type 0 = λ a. HasPassed p a i place in
    best_new p i place c.requires.input top c.top-top.ensures first (subst A (table_empty p 32) (c.has_passed.ensures.0 c.if-has_passed.true))

pub returns-else-is_first : goal.returns-else-is_first
returns-else-is_first c =
    let p = c.args.self.now.problem in
    let i = c.args.input in
    let place = c.args.place in
    let top = c.top-top.result in
    let kept = c.after.ensures ∙ ap (λ x. x.after) c.input.ensures.value in
    let A : Assignment → Type 0 = λ a. HasPassed p a i place in
    let less = (version_asks p i place c.requires.input c.requires.rules).0 in
    let some : 0 < place = omega (arith, less) in
    best_old p i place c.requires.input top c.top-top.ensures some (elim c.else-is_first.branch [
      | else-is_first-via-then-is_first+else-has_passed w ↦
          (λ first h. false≢true (sym w.if-has_passed.false ∙ w.has_passed.ensures.1 (subst A (sym (table_empty p 32)) h)))
      | else-is_first-via-else-is_first w ↦
          (λ first h. false≢true (sym w.if-is_first.false ∙ c.is_preferred-is_first.ensures ∙ ap (λ o. prefers_after o place top) kept ∙ first))
    ])
