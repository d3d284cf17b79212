use Rattle.std.proofs.Common.{List, ℕ, sym, subst}
use Rattle.ccr_choice.specs.Problem.{InputValue, BuildValue}
use Rattle.ccr_explain.specs.Cut.{is_of_use, AreThose}
use Rattle.ccr_explain.proofs.narrow.narrow_by.Goals as goal

pub narrow_to-requires-clause-useful : goal.narrow_to-requires-clause-useful
narrow_to-requires-clause-useful c =
    let P : List BuildValue → List InputValue → List ℕ → Type 0 = λ bs xs ks. AreThose (is_of_use xs c.args.job) bs bs ks in
    let Q : List BuildValue → Type 0 = λ bs. P bs c.args.inputs.now.items c.deref-2.result.now in
    let R : List InputValue → Type 0 = λ xs. P c.rows-rows.result.now.builds xs c.deref-2.result.now in
    let S : List ℕ → Type 0 = λ ks. P c.rows-rows.result.now.builds c.deref.result.now ks in
    subst Q c.rows-rows.ensures.value (subst R c.deref.ensures.value (subst S (sym c.deref-2.ensures.value) c.in_ok-useful.ensures))

pub returns-clause-useful : goal.returns-clause-useful
returns-clause-useful c =
    let P : List BuildValue → List InputValue → Type 0 = λ bs xs. AreThose (is_of_use xs c.args.job) bs bs c.in_ok-useful.useful.items in
    let Q : List BuildValue → Type 0 = λ bs. P bs c.args.inputs.now.items in
    let R : List InputValue → Type 0 = λ xs. P c.rows-rows.result.now.builds xs in
    subst Q c.rows-rows.ensures.value (subst R c.deref.ensures.value c.in_ok-useful.ensures)
