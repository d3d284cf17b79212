use Rattle.std.proofs.Common.{◌≤◌, length, refl, arith}
use Rattle.ccr_choice.specs.Preference.{order_of}
use Rattle.ccr_choice.proofs.Bounds.{rules_of}
use Rattle.ccr_resolve.proofs.Steps.{some_build}
use Rattle.ccr_resolve.proofs.UpperLaws.{top_kept, top_choice}
use Rattle.ccr_resolve.proofs.newest.newest_choice.Goals as goal

pub returns-in_default : goal.returns-in_default
returns-in_default c = λ top.
    let p = c.args.index.now.problem in
    let none = c.in_default.ensures.found in
    let some = some_build (order_of p) p none.0 top none.1 in
    absurd (omega (arith, some, none.2))

pub returns-then-not-are_kept : goal.returns-then-not-are_kept
returns-then-not-are_kept c = λ top.
    let p = c.args.index.now.problem in
    absurd (cc (c.if-not-are_kept.ensures.1 (top_kept p c.newest_builds.ensures.rules c.args.upper.now c.in-Some.fixed c.requires.upper c.in-Some.ensures.found top)))

pub returns : goal.returns
returns c =
    let p = c.args.index.now.problem in
    let rules = c.newest_builds.ensures.rules in
    let few = (rules_of p rules).few_inputs in
    let wide : length p.inputs ≤ length c.args.upper.now = omega (arith, few, c.told-upper) in
    top_choice p rules c.args.upper.now c.in-Some.fixed c.requires.upper c.in-Some.ensures.found wide c.requires.some (c.if-not-are_kept.ensures.0 refl) c.in_ok-full_choice.field-0 c.in_ok-full_choice.ensures
