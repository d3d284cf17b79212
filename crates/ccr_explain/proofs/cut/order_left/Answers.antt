use Rattle.std.proofs.Common.{◌≡◌, ◌≤◌, List, [], drop, length, subst, ap, arith}
use Rattle.ccr_choice.specs.Problem.{InputValue}
use Rattle.ccr_explain.specs.Cut.{order_from, order_left}
use Rattle.ccr_explain.proofs.CutRules.{order_few, order_known}
use Rattle.ccr_explain.proofs.Steps.{order_is}
use Rattle.ccr_explain.proofs.cut.order_left.Goals as goal

value : (c : goal.After-loop-i) → c.loop-i.order.items ≡ order_left c.args.demands.now c.args.problem.now
value c =
    let ds = c.args.demands.now in
    let p = c.args.problem.now in
    let P : List InputValue → Type 0 = λ xs. order_from ds c.loop-i.i c.loop-i.order.items (drop c.loop-i.i xs) ≡ order_from ds 0 [] xs in
    let end : length p.inputs ≤ c.loop-i.i = omega (arith, c.loop-i-test.false, ap length c.inputs-inputs.ensures.value) in
    order_is ds p c.loop-i.i c.loop-i.order.items end (subst P c.inputs-inputs.ensures.value c.loop-i.invariant)

pub returns-clause-value : goal.returns-clause-value
returns-clause-value c = value c

pub returns-clause-few : goal.returns-clause-few
returns-clause-few c = omega (arith, ap length (value c), order_few c.args.demands.now c.args.problem.now c.inputs-inputs.ensures.kept)

pub returns-clause-known : goal.returns-clause-known
returns-clause-known c = order_known c.args.demands.now c.args.problem.now c.loop-i.order.items c.inputs-inputs.ensures.kept (value c)
