use Rattle.std.proofs.Common.{◌≡◌, ◌≢◌, ◌<◌, ◌≤◌, ℕ, length, take, slice_index, ap, sym, ◌∙◌, arith}
use Rattle.std.proofs.lemmas.Bool.{false≢true}
use Rattle.std.proofs.lemmas.List.{get_or-take, length-take-le}
use Rattle.ccr_choice.specs.Preference.{order_of}
use Rattle.ccr_choice.proofs.Orders.{is_order, same_bounded, first_decides}
use Rattle.ccr_resolve.proofs.upper.is_better.Goals as goal

pub returns-then-upper-i-clause-value : goal.returns-then-upper-i-clause-value
returns-then-upper-i-clause-value c =
    let p = c.args.index.now.problem in
    let n = length p.inputs in
    let upper = c.args.upper.now in
    let places = c.args.places.now in
    let i = c.loop-i.i in
    let xs = take n upper in
    let wide : n ≤ length upper = omega (arith, c.input_count.ensures.few, c.input_count.ensures.value, c.told-upper) in
    let inside : i < n = omega (arith, c.loop-i-test.true, c.min-both.ensures, c.input_count.ensures.value) in
    let reached : i < length places = omega (arith, c.loop-i-test.true, c.min-both.ensures) in
    let at : (k : ℕ) → k < n → slice_index xs k ≡ slice_index upper k = λ k within. get_or-take n upper k 0 within in
    let differs : slice_index xs i ≢ slice_index places i = λ e. c.if-upper-i.true (sym (at i inside) ∙ e) in
    let decided = first_decides (order_of p) (is_order p) xs places i (λ k less. at k (omega (arith, less, inside)) ∙ c.loop-i.invariant k less) (omega (arith, inside, length-take-le n upper wide)) reached differs in
    let tested : c.prefers.result ≡ order_of p i (slice_index xs i) (slice_index places i) = c.prefers.ensures ∙ ap (λ x. order_of p i x (slice_index places i)) (sym (at i inside)) in
    (λ t. decided.0 (sym tested ∙ t), λ h. tested ∙ decided.1 h)

pub returns-clause-value : goal.returns-clause-value
returns-clause-value c =
    let p = c.args.index.now.problem in
    let n = length p.inputs in
    let upper = c.args.upper.now in
    let places = c.args.places.now in
    let wide : n ≤ length upper = omega (arith, c.input_count.ensures.few, c.input_count.ensures.value, c.told-upper) in
    let below : c.loop-i.i ≤ n = omega (arith, c.loop-i.auto.i-end, c.min-both.ensures, c.input_count.ensures.value) in
    let none = same_bounded (order_of p) (is_order p) (take n upper) places c.loop-i.i (λ k less. get_or-take n upper k 0 (omega (arith, less, below)) ∙ c.loop-i.invariant k less)
    (λ k within reached. omega (arith, within, reached, length-take-le n upper wide, c.loop-i-test.false, c.min-both.ensures, c.input_count.ensures.value)) in
    (λ t. absurd (false≢true t), λ h. absurd (none h))
