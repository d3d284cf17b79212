use Rattle.std.proofs.Common.{◌≡◌, ◌<◌, ◌∙◌, List, length, slice_set, ap, sym, subst, arith}
use Rattle.ccr_choice.specs.Problem.{InputValue, input_at, IsProblem}
use Rattle.ccr_choice.specs.Preference.{order_of}
use Rattle.ccr_choice.specs.Assignment.{nothing_fixed}
use Rattle.ccr_choice.specs.Possible.{IsBestPlace}
use Rattle.ccr_index.specs.Rows.{with_place}
use Rattle.ccr_index.specs.Index.{IndexValue, problem_in, with_version}
use Rattle.ccr_index.proofs.InputLaws.{tops_written}
use Rattle.ccr_index.proofs.IndexLaws.{viewed, input_in, input_inside, index_raised, index_roomy_input, on_err, left_one, version_value}
use Rattle.ccr_index.proofs.index.Index.add_version.Goals as goal

pub invariant_of-self : goal.invariant_of-self
invariant_of-self c =
    let inside = input_inside c.self.inside.inputs.items c.self.inside.jobs.items c.self.inside.spare_places c.self.inside.spare_pairs c.args.self.now c.self.view_is c.args.input c.requires.input in
    (index_roomy_input c.self.inside.inputs.items c.self.inside.jobs.items c.self.inside.tops c.self.inside.spare_places c.self.inside.spare_pairs c.self.invariant c.args.input c.index_mut-rows.result.now c.make_room.new.self
    c.index_mut-rows.ensures.value inside c.make_room.ensures.input c.make_room.ensures.kept).0

pub returns-in_err-make_room-clause-err : goal.returns-in_err-make_room-clause-err
returns-in_err-make_room-clause-err c =
    let jobs = c.self.inside.jobs.items in
    let inside = input_inside c.self.inside.inputs.items c.self.inside.jobs.items c.self.inside.spare_places c.self.inside.spare_pairs c.args.self.now c.self.view_is c.args.input c.requires.input in
    let same = (index_roomy_input c.self.inside.inputs.items c.self.inside.jobs.items c.self.inside.tops c.self.inside.spare_places c.self.inside.spare_pairs c.self.invariant c.args.input c.index_mut-rows.result.now c.make_room.new.self
    c.index_mut-rows.ensures.value inside c.make_room.ensures.input c.make_room.ensures.kept).1 in
    let V : List InputValue → IndexValue = λ is. record { problem = record { inputs = is; jobs = (problem_in c.self.inside.inputs.items jobs).jobs }; spare_places = c.self.inside.spare_places; spare_pairs = c.self.inside.spare_pairs } in
    on_err c.from_residual.result _ (ap V same ∙ c.self.view_is)

pub invariant_of-self-2 : goal.invariant_of-self-2
invariant_of-self-2 c =
    let inputs = c.self.inside.inputs.items in
    let jobs = c.self.inside.jobs.items in
    let n = c.self.inside.spare_places in
    let m = c.self.inside.spare_pairs in
    let i = c.args.input in
    let place = c.args.place in
    let top = c.top_with_place-top.result in
    let inside = input_inside inputs jobs n m c.args.self.now c.self.view_is i c.requires.input in
    let was : c.index_mut-rows.result.now.input ≡ input_at (problem_in inputs jobs) i = input_in inputs jobs i c.index_mut-rows.result.now inside c.index_mut-rows.ensures.value in
    let added : c.add.new.self.input ≡ with_place (input_at (problem_in inputs jobs) i) place = c.add.ensures.input ∙ ap (λ (x : InputValue). with_place x place) (c.make_room.ensures.input ∙ was) in
    let Rules : IndexValue → Type 0 = λ v. IsProblem (with_version v.problem i place) in
    let Inside : IndexValue → Type 0 = λ v. i < length v.problem.inputs in
    let Best : IndexValue → Type 0 = λ v. IsBestPlace (order_of (with_version v.problem i place)) (with_version v.problem i place) nothing_fixed i top in
    let rules : Rules (viewed inputs jobs n m) = subst Rules (sym c.self.view_is) c.requires.rules in
    let within : Inside (viewed inputs jobs n m) = subst Inside (sym c.self.view_is) c.requires.input in
    let best : Best (viewed inputs jobs n m) = subst Best (sym c.self.view_is) c.top_with_place-top.ensures in
    index_raised inputs jobs c.self.inside.tops (slice_set c.self.inside.tops i top) n m c.saturating_sub-left.result i place c.add.new.self c.self.invariant added
    (omega (arith, c.add.ensures.spare, c.in_ok-make_room.ensures.room)) (omega (arith, c.saturating_sub-left.ensures))
    (tops_written (problem_in inputs jobs) i (with_place (input_at (problem_in inputs jobs) i) place) within rules c.self.inside.tops top c.self.invariant.tops best)

pub returns-clause-ok : goal.returns-clause-ok
returns-clause-ok c =
    let inputs = c.self.inside.inputs.items in
    let jobs = c.self.inside.jobs.items in
    let n = c.self.inside.spare_places in
    let m = c.self.inside.spare_pairs in
    let i = c.args.input in
    let place = c.args.place in
    let inside = input_inside inputs jobs n m c.args.self.now c.self.view_is i c.requires.input in
    let was : c.index_mut-rows.result.now.input ≡ input_at (problem_in inputs jobs) i = input_in inputs jobs i c.index_mut-rows.result.now inside c.index_mut-rows.ensures.value in
    let added : c.add.new.self.input ≡ with_place (input_at (problem_in inputs jobs) i) place = c.add.ensures.input ∙ ap (λ (x : InputValue). with_place x place) (c.make_room.ensures.input ∙ was) in
    version_value inputs jobs n m i place c.saturating_sub-left.result c.add.new.self c.args.self.now c.self.view_is added (c.saturating_sub-left.ensures ∙ left_one n)
