use Rattle.std.proofs.Common.{◌∙◌, ℕ, List, Vec, Global, map, slice_index, sym, subst}
use Rattle.std.specs.Prelude.{IfOk}
use Rattle.std.proofs.lemmas.List.Elements.{All-get_or}
use Rattle.ccr_choice.specs.Problem.{BuildValue, builds_at}
use Rattle.ccr_explain.specs.Cut.{is_of_use, build_in, AreThose, IsEnough}
use Rattle.ccr_explain.proofs.NarrowLaws.{ok_weaker}
use Rattle.ccr_explain.proofs.cut.useful_of.Goals as goal

pub returns-then-one-n : goal.returns-then-one-n
returns-then-one-n c =
    let p = c.args.problem.now in
    let order = c.args.order.now in
    let inputs = c.args.inputs.now in
    let one = c.one-item.result in
    let E : ℕ × Vec ℕ Global → Type 0 = λ s. IsEnough p order inputs s.0 s.1.items in
    let found : E one = subst E (sym c.one-item.is) (All-get_or E c.args.looked.now c.loop-one.one-index one c.loop-one-test.true c.requires.enough) in
    let P : ℕ → Type 0 = λ n. IsEnough p order inputs n one.1.items in
    let enough = subst P c.if-one-n.true found in
    let test = is_of_use inputs c.args.n in
    let all = builds_at p (slice_index order c.args.n) in
    let Q : Vec ℕ Global → List BuildValue → List ℕ → Type 0 = λ useful bs ks. AreThose test bs (map (build_in bs) ks) useful.items in
    ok_weaker _ _ c.useful_among.result (λ useful h. (let R : List BuildValue → Type 0 = λ bs. Q useful bs c.deref.result.now in
    let S : List ℕ → Type 0 = λ ks. Q useful all ks in
    let those = subst S c.deref.ensures.value (subst R c.rows-rows.ensures.value h) in
    record { within = those.within; are = those.are ∙ enough.all })) c.useful_among.ensures

pub returns : goal.returns
returns c =
    let P : List BuildValue → Type 0 = λ bs. IfOk c.useful_builds.result (λ useful. AreThose (is_of_use c.args.inputs.now c.args.n) bs bs useful.items) in
    subst P c.rows-rows.ensures.value c.useful_builds.ensures
