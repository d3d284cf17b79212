use Rattle.std.proofs.Common.{◌≡◌, ◌∙◌, ◌<◌, List, [], length, slice_index_or, true, refl, subst, sym, ap}
use Rattle.std.specs.Prelude.{All}
use Rattle.ccr_choice.specs.Problem.{ProblemValue, InputValue, no_input, is_problem}
use Rattle.ccr_choice.specs.Ascending.{AreRising}
use Rattle.ccr_explain.specs.Cut.{cut_from, problem_with}
use Rattle.ccr_explain.proofs.CutRules.{cut_rules, cut_rises}
use Rattle.ccr_explain.proofs.NarrowLaws.{rises_too, none_left}
use Rattle.ccr_explain.proofs.Steps.{cut_is, inputs_are, narrowed_cut}
use Rattle.ccr_explain.proofs.cut.cut_to.Goals as goal

pub narrow-requires-clause-rising : goal.narrow-requires-clause-rising
narrow-requires-clause-rising c =
    let ds = c.args.demands.now in
    let top = c.top.result in
    let p = c.args.problem.now in
    cut_rises ds top p c.in_ok-inputs.inputs.items c.inputs.ensures.kept c.top.ensures.least c.top.ensures.most
    (inputs_are ds top p c.in_ok-order.order.items c.deref.result.now c.in_ok-inputs.inputs.items c.in_ok-order.ensures.value c.deref.ensures.value
    (c.in_ok-inputs.ensures ∙ ap (cut_from ds c.deref.result.now top 0) c.inputs.ensures.value))

pub jobs_of-requires-clause-rising : goal.jobs_of-requires-clause-rising
jobs_of-requires-clause-rising c =
    let ds = c.args.demands.now in
    let top = c.top.result in
    let p = c.args.problem.now in
    let P : List InputValue → Type 0 = λ xs. All (λ x. AreRising x.places) xs in
    subst P (sym c.deref-7.ensures.value) (rises_too p c.deref-2.result.now c.in_ok-inputs.inputs.items c.narrow.new.inputs.items c.in_ok-looked.ensures.narrowed
    (cut_rises ds top p c.in_ok-inputs.inputs.items c.inputs.ensures.kept c.top.ensures.least c.top.ensures.most
    (inputs_are ds top p c.in_ok-order.order.items c.deref.result.now c.in_ok-inputs.inputs.items c.in_ok-order.ensures.value c.deref.ensures.value
    (c.in_ok-inputs.ensures ∙ ap (cut_from ds c.deref.result.now top 0) c.inputs.ensures.value))))

pub new-requires : goal.new-requires
new-requires c =
    let ds = c.args.demands.now in
    let top = c.top.result in
    let p = c.args.problem.now in
    let same = cut_is ds p c.in_ok-order.order.items c.deref-8.result.now c.narrow.new.inputs.items c.deref-7.result.now c.in_ok-jobs.jobs.items
    c.in_ok-order.ensures.value c.deref-8.ensures.value c.deref-7.ensures.value c.in_ok-jobs.ensures in
    let narrowed = narrowed_cut ds top p c.in_ok-order.order.items c.deref.result.now c.deref-2.result.now c.in_ok-inputs.inputs.items c.narrow.new.inputs.items
    c.in_ok-order.ensures.value c.deref.ensures.value c.deref-2.ensures.value
    (c.in_ok-inputs.ensures ∙ ap (cut_from ds c.deref.result.now top 0) c.inputs.ensures.value) c.in_ok-looked.ensures.narrowed in
    let P : ProblemValue → Type 0 = λ q. is_problem q ≡ true in
    subst P (sym same) (cut_rules ds top p c.narrow.new.inputs.items c.inputs.ensures.kept c.top.ensures.least c.top.ensures.most narrowed)

pub returns : goal.returns
returns c =
    let ds = c.args.demands.now in
    let top = c.top.result in
    let p = c.args.problem.now in
    record {
      rules = c.inputs.ensures.kept;
      top = top;
      is_top = c.top.ensures;
      inputs = c.narrow.new.inputs.items;
      narrowed = narrowed_cut ds top p c.in_ok-order.order.items c.deref.result.now c.deref-2.result.now c.in_ok-inputs.inputs.items c.narrow.new.inputs.items
          c.in_ok-order.ensures.value c.deref.ensures.value c.deref-2.ensures.value
          (c.in_ok-inputs.ensures ∙ ap (cut_from ds c.deref.result.now top 0) c.inputs.ensures.value) c.in_ok-looked.ensures.narrowed;
      is = c.new.ensures ∙ cut_is ds p c.in_ok-order.order.items c.deref-8.result.now c.narrow.new.inputs.items c.deref-7.result.now c.in_ok-jobs.jobs.items
          c.in_ok-order.ensures.value c.deref-8.ensures.value c.deref-7.ensures.value c.in_ok-jobs.ensures;
    }

pub returns-in-Some : goal.returns-in-Some
returns-in-Some c =
    let ds = c.args.demands.now in
    let top = c.top.result in
    let p = c.args.problem.now in
    let ys = c.narrow.new.inputs.items in
    let Q : List InputValue → Type 0 = λ xs. (c.in-Some.field-0 < length xs) × (slice_index_or xs c.in-Some.field-0 no_input).places ≡ [] in
    let emptied = subst Q c.deref-3.ensures.value c.in-Some.ensures in
    record {
      cut = problem_with ds p ys;
      is_cut = record {
        rules = c.inputs.ensures.kept;
        top = top;
        is_top = c.top.ensures;
        inputs = ys;
        narrowed = narrowed_cut ds top p c.in_ok-order.order.items c.deref.result.now c.deref-2.result.now c.in_ok-inputs.inputs.items ys
            c.in_ok-order.ensures.value c.deref.ensures.value c.deref-2.ensures.value
            (c.in_ok-inputs.ensures ∙ ap (cut_from ds c.deref.result.now top 0) c.inputs.ensures.value) c.in_ok-looked.ensures.narrowed;
        is = refl;
      };
      none = none_left ds p ys c.in-Some.field-0 emptied.0 emptied.1;
    }
