use Rattle.std.proofs.Common.{◌≡◌, refl, ◌∙◌, List, map, subst, sym, ap, arith}
use Rattle.std.specs.Prelude.{filter}
use Rattle.ccr_choice.specs.Problem.{InputValue, BuildValue}
use Rattle.ccr_explain.specs.Cut.{is_of_use, build_in, IsNarrowed}
use Rattle.ccr_explain.proofs.NarrowLaws.{narrowed_first, narrowed_long, narrowed_turn}
use Rattle.ccr_explain.proofs.Orders.{has, has_it}
use Rattle.ccr_explain.proofs.narrow.narrow_to.Goals.{then-is_among+in_ok-left, else-is_among}
use Rattle.ccr_explain.proofs.narrow.narrow_to.Goals as goal

pub loop-i-init : goal.loop-i-init
loop-i-init c = narrowed_first c.args.problem.now c.args.order.now c.args.inputs.now.items

pub loop-i-preserved : goal.loop-i-preserved
loop-i-preserved c =
    let p = c.args.problem.now in
    let order = c.args.order.now in
    let ys = c.loop-i.inputs.items in
    let bs = c.rows-rows.result.now.builds in
    let P : List InputValue → Type 0 = λ zs. IsNarrowed p order c.args.inputs.now.items zs in
    let Q : List BuildValue → Type 0 = λ cs. map (build_in cs) c.args.useful.now ≡ filter (is_of_use c.args.inputs.now.items c.args.job) cs in
    elim c.if-is_among.branch [
      | then-is_among+in_ok-left w ↦
          narrowed_turn p order w.top.result c.args.inputs.now.items ys c.if-is_among.inputs.items c.args.inputs.now.items c.args.job c.loop-i.i
          (map (build_in bs) c.args.useful.now) bs c.index.result.now w.index-then-is_among.result.now w.in_ok-left.left
          c.rows-rows.ensures.kept c.requires.known w.top.ensures c.requires.job (omega (arith, c.loop-i-test.true, narrowed_long p order c.args.inputs.now.items ys c.loop-i.invariant)) c.loop-i.invariant
          (subst Q (sym c.rows-rows.ensures.value) c.requires.useful.are) refl
          c.rows-rows.ensures.value
          c.index.ensures
          (has_it c.index.result.now.jobs c.args.job (ap (λ js. has js c.args.job) (sym c.jobs.ensures) ∙ sym c.is_among.ensures ∙ w.if-is_among.true))
          w.index-then-is_among.ensures w.in_ok-left.ensures (ap (λ v. v.items) w.inputs-is)
      | else-is_among w ↦ subst P (sym (ap (λ v. v.items) w.inputs-is)) c.loop-i.invariant
    ]
