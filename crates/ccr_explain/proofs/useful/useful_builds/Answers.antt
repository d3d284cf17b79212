use Rattle.std.proofs.Common.{◌≡◌, ◌∙◌, ◌<◌, length, map, sym, ap, arith}
use Rattle.std.specs.List.{list_all}
use Rattle.ccr_explain.specs.Cut.{has_marked, is_of_use, build_in}
use Rattle.ccr_explain.proofs.CutLaws.{of_use_naming}
use Rattle.ccr_explain.proofs.Those.{none_yet, those_more, those_same, those_all, at_itself}
use Rattle.ccr_explain.proofs.useful.useful_builds.Goals as goal
use Rattle.ccr_explain.proofs.useful.useful_builds.Goals.{then-have_marked+in_ok-push, else-have_marked}

pub loop-k-init : goal.loop-k-init
loop-k-init c = none_yet (is_of_use c.args.inputs.now c.args.job) c.args.rows.now.builds c.args.rows.now.builds c.new-useful.result.items c.new-useful.ensures.items

pub loop-k-preserved : goal.loop-k-preserved
loop-k-preserved c =
    let inputs = c.args.inputs.now in
    let bs = c.args.rows.now.builds in
    let k = c.loop-k.k in
    let b = build_in bs k in
    let within : k < length bs = omega (arith, c.loop-k-test.true, c.len-k-end.ensures) in
    let test = is_of_use inputs c.args.job in
    let are = ap (map (λ x. x.now)) c.deref.ensures.value ∙ c.in_ok-naming.ensures.are in
    let of_use : c.have_marked.result ≡ test b = c.have_marked.ensures
    ∙ ap (λ ps. list_all (λ t. has_marked t ps) c.deref-in-loop-k.result.now) c.pairs.ensures.value
    ∙ ap (list_all (λ t. has_marked t b.pairs)) c.deref-in-loop-k.ensures.value
    ∙ c.in_ok-tables.ensures b.pairs ∙ of_use_naming (λ x. x.now) c.deref.result.now inputs c.args.job b are in
    elim c.if-have_marked.branch [
      | then-have_marked+in_ok-push w ↦
          those_more test bs bs k k c.loop-k.useful.items within (at_itself bs k within) c.loop-k.invariant c.if-have_marked.useful.items within
          (ap (λ v. v.items) w.useful-is ∙ w.in_ok-push.ensures.items) (sym of_use ∙ w.if-have_marked.true)
      | else-have_marked w ↦
          those_same test bs bs k k c.loop-k.useful.items within (at_itself bs k within) c.loop-k.invariant c.if-have_marked.useful.items
          (ap (λ v. v.items) w.useful-is) (sym of_use ∙ w.if-have_marked.false)
    ]

pub returns : goal.returns
returns c = those_all (is_of_use c.args.inputs.now c.args.job) c.args.rows.now.builds c.args.rows.now.builds c.loop-k.k c.loop-k.useful.items (omega arith) c.loop-k.invariant
