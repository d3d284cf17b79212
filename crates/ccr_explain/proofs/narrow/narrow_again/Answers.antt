use Rattle.std.proofs.Common.{◌∙◌, List, ℕ, map, slice_index, sym, subst}
use Rattle.ccr_choice.specs.Problem.{InputValue, BuildValue, builds_at}
use Rattle.ccr_explain.specs.Cut.{is_of_use, build_in, AreThose}
use Rattle.ccr_explain.proofs.narrow.narrow_again.Goals as goal

pub narrow_to-requires-clause-useful : goal.narrow_to-requires-clause-useful
narrow_to-requires-clause-useful c =
    let job = c.args.looked.now.0 in
    let all = builds_at c.args.problem.now (slice_index c.args.order.now job) in
    let xs = c.args.inputs.now.items in
    let P : List BuildValue → List ℕ → List InputValue → List ℕ → Type 0 = λ bs among ys ks. AreThose (is_of_use ys job) bs (map (build_in bs) among) ks in
    let Q : List BuildValue → Type 0 = λ bs. P bs c.args.looked.now.1.items xs c.deref-3.result.now in
    let R : List ℕ → Type 0 = λ among. P c.rows-rows.result.now.builds among xs c.deref-3.result.now in
    let S : List InputValue → Type 0 = λ ys. P c.rows-rows.result.now.builds c.deref-2.result.now ys c.deref-3.result.now in
    let T : List ℕ → Type 0 = λ ks. P c.rows-rows.result.now.builds c.deref-2.result.now c.deref.result.now ks in
    let those = subst Q c.rows-rows.ensures.value (subst R c.deref-2.ensures.value (subst S c.deref.ensures.value (subst T (sym c.deref-3.ensures.value) c.in_ok-useful.ensures))) in
    record { within = those.within; are = those.are ∙ c.requires.enough.all }
