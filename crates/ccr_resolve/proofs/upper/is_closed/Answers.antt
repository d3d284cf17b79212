use Rattle.std.proofs.Common.{◌≡◌, ◌≤◌, ◌↔◌, ◌∙◌, ℕ, List, Bool, true, false, not, length, take, ap, sym, subst, refl, arith, Option, Some}
use Rattle.std.specs.Prelude.{IsTrue}
use Rattle.ccr_choice.specs.Problem.{ChoiceValue}
use Rattle.ccr_choice.specs.Preference.{order_of, IsBetter}
use Rattle.ccr_proof.specs.Refutes.{IsBounded}
use Rattle.ccr_resolve.specs.Search.{places_of}
use Rattle.ccr_resolve.proofs.UpperLaws.{none_better}
use Rattle.ccr_resolve.proofs.upper.is_closed.Goals as goal

closed_by : (r : Bool) (L B : Type 0) → (IsTrue r ↔ L) → ((L → ⊥) ↔ B) → (IsTrue (not r) ↔ B)
closed_by true L B e f = (λ t. absurd (cc (t)), λ b. absurd (f.1 b (e.0 refl)))
closed_by false L B e f = (λ t. f.0 (λ l. absurd (let h = e.1 l in cc (h))), λ b. refl)

pub returns-in-Some : goal.returns-in-Some
returns-in-Some c = λ a best.
    let p = c.args.index.now.problem in
    let upper = c.args.upper.now in
    let r = c.is_better.result in
    let places = c.in-Some.choice.places in
    let wide : length p.inputs ≤ length upper = omega (arith, c.is_better.ensures.few, c.told-upper) in
    let same : c.deref.result.now ≡ places = c.deref.ensures.value ∙ ap (λ x. x.places) c.choice.view_is in
    let P : List ℕ → Type 0 = λ ys. IsTrue r ↔ IsBetter (order_of p) (take (length p.inputs) upper) ys in
    let R : Option ChoiceValue → Type 0 = λ o. IsTrue (not r) ↔ IsBounded (order_of p) p (places_of o) a in
    let told : P places = subst P same c.is_better.ensures.value in
    subst R (sym c.in-Some.is) (closed_by r (IsBetter (order_of p) (take (length p.inputs) upper) places) (IsBounded (order_of p) p (places_of (Some c.in-Some.choice)) a) told (none_better p a upper best wide places))
