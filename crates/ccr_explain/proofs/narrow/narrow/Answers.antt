use Rattle.std.proofs.Common.{◌<◌, ◌-◌, ℕ, List, Vec, Global, length, subst, sym, arith}
use Rattle.std.proofs.lemmas.List.Elements.{All-weaker, All-get_or}
use Rattle.ccr_choice.specs.Problem.{InputValue}
use Rattle.ccr_explain.specs.Cut.{IsEnough}
use Rattle.ccr_explain.proofs.NarrowLaws.{narrowed_first, narrowed_twice, rises_too, enough_narrowed}
use Rattle.ccr_explain.proofs.narrow.narrow.Goals as goal

pub loop-at-init : goal.loop-at-init
loop-at-init c = record {
  narrowed = narrowed_first c.args.problem.now c.args.order.now c.narrow_each.new.inputs.items;
  enough = c.in_ok-looked.ensures.enough;
}

pub narrow_again-requires-clause-job : goal.narrow_again-requires-clause-job
narrow_again-requires-clause-job c =
    let In : ℕ × Vec ℕ Global → Type 0 = λ s. s.0 < length c.args.order.now in
    let one = c.index.result.now in
    subst In (sym c.index.ensures) (All-get_or In c.in_ok-looked.looked.items (c.loop-at.at - 1) one
    (omega (arith, c.loop-at-test.true, c.len-at.ensures)) c.in_ok-looked.ensures.within)

pub narrow_again-requires-clause-rising : goal.narrow_again-requires-clause-rising
narrow_again-requires-clause-rising c =
    rises_too c.args.problem.now c.args.order.now c.args.inputs.now.items c.loop-at.inputs.items
    (narrowed_twice c.args.problem.now c.args.order.now c.args.inputs.now.items c.narrow_each.new.inputs.items c.loop-at.inputs.items
    c.in_ok-looked.ensures.narrowed c.loop-at.invariant.narrowed) c.requires.rising

pub narrow_again-requires-clause-enough : goal.narrow_again-requires-clause-enough
narrow_again-requires-clause-enough c =
    let E : ℕ × Vec ℕ Global → Type 0 = λ s. IsEnough c.args.problem.now c.args.order.now c.loop-at.inputs.items s.0 s.1.items in
    let one = c.index.result.now in
    subst E (sym c.index.ensures) (All-get_or E c.in_ok-looked.looked.items (c.loop-at.at - 1) one
    (omega (arith, c.loop-at-test.true, c.len-at.ensures)) c.loop-at.invariant.enough)

pub loop-at-preserved : goal.loop-at-preserved
loop-at-preserved c =
    let p = c.args.problem.now in
    let order = c.args.order.now in
    let now = c.loop-at.inputs.items in
    let next = c.narrow_again.new.inputs.items in
    let E : List InputValue → ℕ × Vec ℕ Global → Type 0 = λ zs s. IsEnough p order zs s.0 s.1.items in
    record {
      narrowed = narrowed_twice p order c.narrow_each.new.inputs.items now next c.loop-at.invariant.narrowed c.in_ok-narrow_again.ensures;
      enough = All-weaker (E now) (E next) (λ s h. enough_narrowed p order now next s.0 s.1.items c.in_ok-narrow_again.ensures h) c.in_ok-looked.looked.items c.loop-at.invariant.enough;
    }

pub returns : goal.returns
returns c = record {
  narrowed = narrowed_twice c.args.problem.now c.args.order.now c.args.inputs.now.items c.narrow_each.new.inputs.items c.loop-at.inputs.items
      c.in_ok-looked.ensures.narrowed c.loop-at.invariant.narrowed;
  enough = c.loop-at.invariant.enough;
}
