use Rattle.std.proofs.Common.{◌≡◌, ◌∙◌, List, ap}
use Rattle.ccr_choice.specs.Problem.{ProblemValue, InputValue}
use Rattle.ccr_choice.specs.Preference.{order_of}
use Rattle.ccr_explain.specs.WhyNot.{asked}
use Rattle.ccr_explain.proofs.Steps.{why_result, not_the_best}
use Rattle.ccr_explain.proofs.why.why_not.Goals as goal

pub returns-clause-shown : goal.returns-clause-shown
returns-clause-shown c =
    let p = c.args.index.now.problem in
    let places = c.args.choice.now.places in
    let f : List InputValue → ProblemValue = λ xs. record p { inputs = xs } in
    let places_are : c.deref.result.now ≡ places = c.deref.ensures.value ∙ ap (λ v. v.places) c.choice.view_is in
    let same = c.new-problem.ensures ∙ ap f c.deref-2.ensures.value ∙ c.in_ok-inputs.ensures.value ∙ ap (λ ns. asked (order_of p) p ns c.args.input c.args.place) places_are in
    why_result p c.new-problem.result places c.args.input c.args.place c.args.budget c.asked_of.result c.requires.input same c.asked_of.ensures

pub returns-clause-not_of_the_best : goal.returns-clause-not_of_the_best
returns-clause-not_of_the_best c = λ best preferred other is.
    let p = c.args.index.now.problem in
    let places = c.args.choice.now.places in
    let f : List InputValue → ProblemValue = λ xs. record p { inputs = xs } in
    let places_are : c.deref.result.now ≡ places = c.deref.ensures.value ∙ ap (λ v. v.places) c.choice.view_is in
    let same = c.new-problem.ensures ∙ ap f c.deref-2.ensures.value ∙ c.in_ok-inputs.ensures.value ∙ ap (λ ns. asked (order_of p) p ns c.args.input c.args.place) places_are in
    not_the_best p places c.args.choice.now.builds c.args.input c.args.place c.args.budget c.asked_of.result c.requires.input
    (why_result p c.new-problem.result places c.args.input c.args.place c.args.budget c.asked_of.result c.requires.input same c.asked_of.ensures) best preferred other is
