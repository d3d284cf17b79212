use Rattle.std.proofs.Common.{◌≡◌, ◌<◌, ◌-◌, ℕ, length, get_or, true, IsTrue, Option, sym, ap, ◌∙◌, subst, arith, inl, inr}
use Rattle.std.proofs.lemmas.Bool.{cases_lt, false≢true}
use Rattle.ccr_choice.specs.Problem.{input_at}
use Rattle.ccr_choice.specs.Ascending.{is_before, is_up_to}
use Rattle.ccr_choice.specs.Preference.{prefers_after, order_of}
use Rattle.ccr_choice.specs.Possible.{IsPossible, Reaches}
use Rattle.ccr_choice.specs.Table.{assigned}
use Rattle.ccr_choice.proofs.Orders.{is_order, reach_on}
use Rattle.ccr_choice.proofs.Places.{input_is}
use Rattle.ccr_choice.proofs.Scopes.{seen_down, none_below, earlier, scope_below, other_scope, reached_unless}
use Rattle.ccr_choice.proofs.possible.best_below.Goals.{then-at-scope-via-then-at-scope, then-at-scope-via-else-at-scope+then-not-is_better}
use Rattle.ccr_choice.proofs.possible.best_below.Goals as goal

pub returns-then-at-scope-clause-reached : goal.returns-then-at-scope-clause-reached
returns-then-at-scope-clause-reached c =
    let p = c.args.problem.now in
    let i = c.args.input in
    let xs = c.args.pairs.now in
    let k = c.loop-k.k - 1 in
    let q = get_or xs k (0, 0) in
    let scope = (input_at p i).scope in
    let kept = (input_at p i).after in
    let named : c.scope-scope.result ≡ scope =
    c.scope-scope.ensures ∙ ap (λ x. x.scope) (input_is p c.inputs-inputs.result.now i c.index-inputs-input.result c.inputs-inputs.ensures.value c.requires.input c.index-inputs-input.is) in
    let inside : k < length xs = omega arith in
    let side : is_up_to kept scope q ≡ true = c.requires.below k (omega arith) in
    let Possible : ℕ → Type 0 = IsPossible p (assigned p c.args.fixed.now) i in
    let best = c.args.best in
    let R : ℕ → Type 0 = Reaches (order_of p i) best in
    let all = λ (here : (place : ℕ) → q ≡ (scope, place) → R place) (on : (place : ℕ) → is_before (scope, place) q ≡ true → R place).
    seen_down xs c.requires.ascending scope Possible R k inside here c.args.to (λ place m beyond within at h. c.loop-k.invariant place m (omega arith) within (at ∙ ap (λ z. (z, place)) (sym named)) h) on in
    elim c.then-at-scope.branch [
      | then-at-scope-via-then-at-scope w ↦ all (λ place e. absurd (w.if-at-scope.true (ap (λ y. y.0) e ∙ sym named))) (λ place b. absurd (other_scope scope q place (scope_below kept scope q side) (λ e. w.if-at-scope.true (e ∙ sym named)) b))
      | then-at-scope-via-else-at-scope+then-not-is_better w ↦
          let own : c.after-after.result ≡ kept =
          c.after-after.ensures ∙ ap (λ x. x.after) (input_is p c.inputs-inputs.result.now i c.index-inputs-input-2.result c.inputs-inputs.ensures.value c.requires.input c.index-inputs-input-2.is) in
          let same : q.0 ≡ scope = w.if-at-scope.false ∙ named in
          let P : Option ℕ → Type 0 = λ o. Reaches (prefers_after o) best q.1 in
          let reached = subst P own (reached_unless c.after-after.result best q.1 w.is_better.result w.is_better.ensures w.if-not-is_better.true) in
          all (λ place e. reach_on (order_of p) (is_order p) i best q.1 place reached (none_below kept scope q place side same (omega (arith, ap (λ y. y.1) e))))
          (λ place b. reach_on (order_of p) (is_order p) i best q.1 place reached (none_below kept scope q place side same (omega (arith, earlier scope q place same b))))
    ]

pub returns-then-is_possible-clause-reached : goal.returns-then-is_possible-clause-reached
returns-then-is_possible-clause-reached c =
    let p = c.args.problem.now in
    let i = c.args.input in
    let xs = c.args.pairs.now in
    let k = c.loop-k.k - 1 in
    let q = get_or xs k (0, 0) in
    let scope = (input_at p i).scope in
    let kept = (input_at p i).after in
    let named : c.scope-scope.result ≡ scope =
    c.scope-scope.ensures ∙ ap (λ x. x.scope) (input_is p c.inputs-inputs.result.now i c.index-inputs-input.result c.inputs-inputs.ensures.value c.requires.input c.index-inputs-input.is) in
    let inside : k < length xs = omega arith in
    let side : is_up_to kept scope q ≡ true = c.requires.below k (omega arith) in
    let Possible : ℕ → Type 0 = IsPossible p (assigned p c.args.fixed.now) i in
    let same : q.0 ≡ scope = c.if-at-scope.false ∙ named in
    seen_down xs c.requires.ascending scope Possible (λ place. IsTrue (order_of p i place q.1) → ⊥) k inside
    (λ place e. none_below kept scope q place side same (omega (arith, ap (λ y. y.1) e)))
    c.args.to (λ place m beyond within at h. c.loop-k.invariant place m (omega arith) within (at ∙ ap (λ z. (z, place)) (sym named)) h)
    (λ place b. none_below kept scope q place side same (omega (arith, earlier scope q place same b)))

pub loop-k-preserved : goal.loop-k-preserved
loop-k-preserved c =
    let xs = c.args.pairs.now in
    let k = c.loop-k.k - 1 in
    let p = c.args.problem.now in
    let Possible : ℕ → Type 0 = IsPossible p (assigned p c.args.fixed.now) c.args.input in
    λ place m least below at h. elim (cases_lt k m) [
      | inl beyond ↦ c.loop-k.invariant place m (omega arith) below at h
      | inr reached ↦ (let e : m ≡ k = omega arith in
          let here : place ≡ (get_or xs k (0, 0)).1 = sym (ap (λ y. y.1) at) ∙ ap (λ n. (get_or xs n (0, 0)).1) e in
          false≢true (sym c.if-is_possible.false ∙ c.is_possible.ensures.1 (subst Possible here h)))
    ]

pub returns-clause-reached : goal.returns-clause-reached
returns-clause-reached c =
    let p = c.args.problem.now in
    let named : c.scope-scope.result ≡ (input_at p c.args.input).scope =
    c.scope-scope.ensures ∙ ap (λ x. x.scope) (input_is p c.inputs-inputs.result.now c.args.input c.index-inputs-input.result c.inputs-inputs.ensures.value c.requires.input c.index-inputs-input.is) in
    λ place m h within at. absurd (c.loop-k.invariant place m (omega arith) within (at ∙ ap (λ z. (z, place)) (sym named)) h)
