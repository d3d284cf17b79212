use Rattle.std.proofs.Common.{◌≡◌, ◌∙◌, ℕ, ◌<◌, length, map, slice_index, sym, ap, arith}
use Rattle.std.specs.List.{list_all}
use Rattle.std.proofs.lemmas.List.{length-map, get_or-map}
use Rattle.std.proofs.lemmas.List.Elements.{All-get_or}
use Rattle.ccr_explain.specs.Cut.{has_place_of, is_of_use, build_in}
use Rattle.ccr_explain.proofs.CutLaws.{of_use_naming}
use Rattle.ccr_explain.proofs.Those.{none_yet, those_more, those_same, those_all}
use Rattle.ccr_explain.proofs.useful.useful_among.Goals as goal
use Rattle.ccr_explain.proofs.useful.useful_among.Goals.{then-is_of_use+in_ok-push, else-is_of_use}

pub loop-k-init : goal.loop-k-init
loop-k-init c =
    let bs = c.args.rows.now.builds in
    none_yet (is_of_use c.args.inputs.now c.args.job) bs (map (build_in bs) c.args.builds.now) c.new-useful.result.items c.new-useful.ensures.items

pub loop-k-preserved : goal.loop-k-preserved
loop-k-preserved c =
    let inputs = c.args.inputs.now in
    let bs = c.args.rows.now.builds in
    let others = map (build_in bs) c.args.builds.now in
    let i = c.loop-k.k-index in
    let k = slice_index c.args.builds.now i in
    let b = build_in bs k in
    let test = is_of_use inputs c.args.job in
    let inside : i < length others = omega (arith, c.loop-k-test.true, length-map c.args.builds.now (build_in bs)) in
    let P : ℕ → Type 0 = λ n. n < length bs in
    let within = All-get_or P c.args.builds.now i 0 c.loop-k-test.true c.requires.within in
    let at = sym (get_or-map (build_in bs) c.args.builds.now i 0 b c.loop-k-test.true) in
    let are = ap (map (λ x. x.now)) c.deref.ensures.value ∙ c.in_ok-naming.ensures.are in
    let of_use : c.is_of_use.result ≡ test b = c.is_of_use.ensures
    ∙ ap (λ ps. list_all (λ x. has_place_of x.now ps) c.deref.result.now) c.pairs.ensures.value
    ∙ of_use_naming (λ x. x.now) c.deref.result.now inputs c.args.job b are in
    elim c.if-is_of_use.branch [
      | then-is_of_use+in_ok-push w ↦
          those_more test bs others i k c.loop-k.useful.items inside at c.loop-k.invariant c.if-is_of_use.useful.items within
          (ap (λ v. v.items) w.useful-is ∙ w.in_ok-push.ensures.items) (sym of_use ∙ w.if-is_of_use.true)
      | else-is_of_use w ↦
          those_same test bs others i k c.loop-k.useful.items inside at c.loop-k.invariant c.if-is_of_use.useful.items
          (ap (λ v. v.items) w.useful-is) (sym of_use ∙ w.if-is_of_use.false)
    ]

pub returns : goal.returns
returns c =
    let bs = c.args.rows.now.builds in
    those_all (is_of_use c.args.inputs.now c.args.job) bs (map (build_in bs) c.args.builds.now) c.loop-k.k-index c.loop-k.useful.items
    (omega (arith, c.loop-k-test.false, length-map c.args.builds.now (build_in bs))) c.loop-k.invariant
