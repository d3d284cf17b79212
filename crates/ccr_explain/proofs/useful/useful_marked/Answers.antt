use Rattle.std.proofs.Common.{◌≡◌, ◌∙◌, ◌<◌, ◌&&◌, false, length, map, slice_index_or, sym, ap, arith}
use Rattle.std.specs.List.{list_all}
use Rattle.ccr_explain.specs.Cut.{has_place_of, is_of_use, build_in}
use Rattle.ccr_explain.proofs.CutLaws.{of_use_naming}
use Rattle.ccr_explain.proofs.PairLaws.{only_marked}
use Rattle.ccr_explain.proofs.Those.{none_yet, those_more, those_same, those_all, at_itself}
use Rattle.ccr_explain.proofs.useful.useful_marked.Goals.{then-is_marked_and_of_use+in_ok-push, else-is_marked_and_of_use}
use Rattle.ccr_explain.proofs.useful.useful_marked.Goals as goal

pub loop-k-init : goal.loop-k-init
loop-k-init c = none_yet (is_of_use c.args.inputs.now c.args.job) c.args.rows.now.builds c.args.rows.now.builds c.new-useful.result.items c.new-useful.ensures.items

pub loop-k-preserved : goal.loop-k-preserved
loop-k-preserved c =
    let inputs = c.args.inputs.now in
    let bs = c.args.rows.now.builds in
    let k = c.loop-k.k in
    let b = build_in bs k in
    let within : k < length bs = omega (arith, c.loop-k-test.true, c.len-k-end.ensures) in
    let test = is_of_use inputs c.args.job in
    let mark = slice_index_or c.args.marks.now k false in
    let are = ap (map (λ x. x.now)) c.deref.ensures.value ∙ c.in_ok-naming.ensures.are in
    let of_use : c.is_marked_and_of_use.result ≡ test b = c.is_marked_and_of_use.ensures
    ∙ ap (λ ps. mark && list_all (λ x. has_place_of x.now ps) c.deref.result.now) c.pairs.ensures.value
    ∙ ap (λ t. mark && t) (of_use_naming (λ x. x.now) c.deref.result.now inputs c.args.job b are)
    ∙ only_marked mark (test b) (λ use_of. c.requires.marked k within use_of) in
    elim c.if-is_marked_and_of_use.branch [
      | then-is_marked_and_of_use+in_ok-push w ↦
          those_more test bs bs k k c.loop-k.useful.items within (at_itself bs k within) c.loop-k.invariant c.if-is_marked_and_of_use.useful.items within
          (ap (λ v. v.items) w.useful-is ∙ w.in_ok-push.ensures.items) (sym of_use ∙ w.if-is_marked_and_of_use.true)
      | else-is_marked_and_of_use w ↦
          those_same test bs bs k k c.loop-k.useful.items within (at_itself bs k within) c.loop-k.invariant c.if-is_marked_and_of_use.useful.items
          (ap (λ v. v.items) w.useful-is) (sym of_use ∙ w.if-is_marked_and_of_use.false)
    ]

pub returns : goal.returns
returns c = those_all (is_of_use c.args.inputs.now c.args.job) c.args.rows.now.builds c.args.rows.now.builds c.loop-k.k c.loop-k.useful.items (omega arith) c.loop-k.invariant
