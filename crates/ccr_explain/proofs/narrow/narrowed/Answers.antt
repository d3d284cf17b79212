use Rattle.std.proofs.Common.{◌∙◌, ℕ, List, Bool, slice_index_or, false, subst, ap, arith}
use Rattle.std.specs.Prelude.{All, filter}
use Rattle.ccr_explain.specs.Cut.{build_in, AreMarked}
use Rattle.ccr_explain.proofs.NarrowLaws.{input_is, place_marked}
use Rattle.ccr_explain.proofs.narrow.narrowed.Goals as goal

pub returns : goal.returns
returns c =
    let marks = c.in_ok-marks.marks.items in
    let x = c.args.input.now in
    let bs = c.args.rows.now.builds in
    let fewer : List Bool → List ℕ → List ℕ = λ ms ps. filter (λ y. slice_index_or ms y false) ps in
    let P : ℕ → Type 0 = λ scope. All (λ k. AreMarked scope marks (build_in bs k).pairs) c.args.useful.now in
    record {
      may = λ y. slice_index_or marks y false;
      is = input_is x c.new.result c.scope-2.result c.in_ok-places.places.items c.in_ok-jobs.jobs.items c.after.result (λ y. slice_index_or marks y false)
          c.new.ensures c.scope-2.ensures
          (c.in_ok-places.ensures ∙ ap (λ ms. fewer ms c.places.result.now) c.deref.ensures.value ∙ ap (fewer marks) c.places.ensures)
          (c.in_ok-jobs.ensures.items ∙ c.jobs.ensures) c.after.ensures;
      keeps = λ b place among has low. place_marked (build_in bs) x.scope marks c.args.useful.now b place (subst P c.scope.ensures c.in_ok-marks.ensures.marked) among has
          (omega (arith, low, c.in_ok-marks.ensures.length));
    }
