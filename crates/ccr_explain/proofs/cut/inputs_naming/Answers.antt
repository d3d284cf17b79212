use Rattle.std.proofs.Common.{◌≡◌, ◌==◌, List, ◌∷◌, [], ◌++◌, map, Bor, sym, ap, subst, ◌∙◌}
use Rattle.std.specs.Prelude.{All}
use Rattle.std.specs.List.{list_any}
use Rattle.std.proofs.lemmas.List.{map-append}
use Rattle.std.proofs.lemmas.List.Elements.{All-append, All-nil, All-cons, All-get_or}
use Rattle.ccr_choice.specs.Problem.{InputValue}
use Rattle.ccr_choice.specs.Ascending.{AreRising}
use Rattle.ccr_choice.specs.declared.problem.Input.{Input}
use Rattle.ccr_explain.specs.Cut.{names}
use Rattle.ccr_explain.proofs.Lists.{filter_takes, filter_leaves}
use Rattle.ccr_explain.proofs.cut.inputs_naming.Goals as goal
use Rattle.ccr_explain.proofs.cut.inputs_naming.Goals.{then-is_among+in_ok-push, else-is_among}

pub loop-input-preserved : goal.loop-input-preserved
loop-input-preserved c =
    let xs = c.args.inputs.now in
    let i = c.loop-input.input-index in
    let x = c.input-item.result in
    let before = c.loop-input.naming.items in
    let P : InputValue → Type 0 = λ y. AreRising y.places in
    let Q : List (Bor Input) → Type 0 = λ ys. All (λ y. AreRising y.now.places) ys in
    let is : names c.args.job x ≡ c.is_among.result = ap (list_any (λ m. m == c.args.job)) (sym c.jobs.ensures) ∙ sym c.is_among.ensures in
    let rises : P x = subst P (sym c.input-item.is) (All-get_or P xs i x c.loop-input-test.true c.requires) in
    elim c.if-is_among.branch [
      | then-is_among+in_ok-push w ↦ (
        ap (λ v. map (λ y. y.now) v.items) w.naming-is ∙ ap (map (λ y. y.now)) w.in_ok-push.ensures.items
            ∙ map-append (λ y. y.now) before _ ∙ ap (λ ys. ys ++ x ∷ []) c.loop-input.invariant.0
            ∙ filter_takes (names c.args.job) xs i x c.loop-input-test.true c.input-item.is (is ∙ w.if-is_among.true),
        subst (λ v. Q v.items) (sym w.naming-is) (subst Q (sym w.in_ok-push.ensures.items)
            (All-append (λ y. AreRising y.now.places) before _ c.loop-input.invariant.1 (All-cons (λ y. AreRising y.now.places) _ [] rises (All-nil _)))),
      )
      | else-is_among w ↦ (
        ap (λ v. map (λ y. y.now) v.items) w.naming-is ∙ c.loop-input.invariant.0
            ∙ filter_leaves (names c.args.job) xs i x c.loop-input-test.true c.input-item.is (is ∙ w.if-is_among.false),
        subst (λ v. Q v.items) (sym w.naming-is) c.loop-input.invariant.1,
      )
    ]
