use Rattle.std.proofs.Common.{◌≡◌, ◌<◌, ◌∙◌, length, slice_set, ap, sym, subst}
use Rattle.ccr_choice.specs.Problem.{InputValue, input_at}
use Rattle.ccr_choice.specs.Preference.{order_of}
use Rattle.ccr_choice.specs.Assignment.{nothing_fixed}
use Rattle.ccr_choice.specs.Possible.{IsBestPlace}
use Rattle.ccr_index.specs.Rows.{with_kept}
use Rattle.ccr_index.specs.Index.{IndexValue, problem_in, with_after}
use Rattle.ccr_index.proofs.AfterLaws.{after_kept}
use Rattle.ccr_index.proofs.InputLaws.{tops_written}
use Rattle.ccr_index.proofs.IndexLaws.{viewed, input_in, input_inside, index_after, after_value}
use Rattle.ccr_index.proofs.index.Index.set_after.Goals as goal

pub invariant_of-self : goal.invariant_of-self
invariant_of-self c =
    let inputs = c.self.inside.inputs.items in
    let jobs = c.self.inside.jobs.items in
    let n = c.self.inside.spare_places in
    let m = c.self.inside.spare_pairs in
    let i = c.args.input in
    let place = c.args.place in
    let top = c.top_after-first.result in
    let p = problem_in inputs jobs in
    let inside = input_inside inputs jobs n m c.args.self.now c.self.view_is i c.requires.input in
    let was : c.index_mut.result.now.input ≡ input_at p i = input_in inputs jobs i c.index_mut.result.now inside c.index_mut.ensures.value in
    let kept : c.keep.new.self.input ≡ with_kept (input_at p i) place = c.keep.ensures.input ∙ ap (λ (x : InputValue). with_kept x place) was in
    let Inside : IndexValue → Type 0 = λ v. i < length v.problem.inputs in
    let Best : IndexValue → Type 0 = λ v. IsBestPlace (order_of (with_after v.problem i place)) (with_after v.problem i place) nothing_fixed i top in
    let within : Inside (viewed inputs jobs n m) = subst Inside (sym c.self.view_is) c.requires.input in
    let best : Best (viewed inputs jobs n m) = subst Best (sym c.self.view_is) c.top_after-first.ensures in
    let rules = after_kept p i place c.self.invariant.tops.rules within c.requires.some c.requires.most in
    index_after inputs jobs c.self.inside.tops (slice_set c.self.inside.tops i top) n m i place c.index_mut.result.now c.keep.new.self c.self.invariant inside kept
    (c.keep.ensures.spare ∙ ap (λ x. x.spare) c.index_mut.ensures.value)
    (tops_written p i (with_kept (input_at p i) place) within rules c.self.inside.tops top c.self.invariant.tops best)

pub returns : goal.returns
returns c =
    let inputs = c.self.inside.inputs.items in
    let jobs = c.self.inside.jobs.items in
    let n = c.self.inside.spare_places in
    let m = c.self.inside.spare_pairs in
    let i = c.args.input in
    let place = c.args.place in
    let inside = input_inside inputs jobs n m c.args.self.now c.self.view_is i c.requires.input in
    let was : c.index_mut.result.now.input ≡ input_at (problem_in inputs jobs) i = input_in inputs jobs i c.index_mut.result.now inside c.index_mut.ensures.value in
    let kept : c.keep.new.self.input ≡ with_kept (input_at (problem_in inputs jobs) i) place = c.keep.ensures.input ∙ ap (λ (x : InputValue). with_kept x place) was in
    after_value inputs jobs n m i place c.keep.new.self c.args.self.now c.self.view_is kept
