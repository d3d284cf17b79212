use Rattle.std.proofs.Common.{◌≡◌, ◌<◌, length, get_or, slice_get, sym, ap, ◌∙◌, subst, arith, Some}
use Rattle.std.proofs.lemmas.Option.{slice_get-get_or}
use Rattle.ccr_choice.specs.Problem.{BuildValue, builds_at}
use Rattle.ccr_choice.specs.Ascending.{AreAscending}
use Rattle.ccr_choice.specs.Dominated.{IsDominated}
use Rattle.ccr_choice.proofs.Lookups.{builds_ascend}
use Rattle.ccr_check.proofs.tree.is_below.Goals as goal

pub is_dominated-requires : goal.is_dominated-requires
is_dominated-requires c =
    let all = builds_ascend _ c.builds-builds.result.now c.builds-builds.ensures.kept in
    let within : c.args.other < length c.builds-builds.result.now = omega (arith, c.requires.other, ap length c.builds-builds.ensures.value) in
    let P : BuildValue → Type 0 = λ b. AreAscending b.pairs in
    subst P (sym c.index-builds-other.is) (all c.args.other c.index-builds-other.result within)

pub returns : goal.returns
returns c = λ b o b_at o_at.
    let p = c.args.problem.now in
    let j = c.args.job in
    let bs = builds_at p j in
    let one = c.index-builds-build.result in
    let other = c.index-builds-other.result in
    let one_at : slice_get bs c.args.build ≡ Some one =
    slice_get-get_or bs c.args.build one c.requires.build ∙ ap Some (sym (c.index-builds-build.is ∙ ap (λ xs. get_or xs c.args.build one) c.builds-builds.ensures.value)) in
    let other_at : slice_get bs c.args.other ≡ Some other =
    slice_get-get_or bs c.args.other other c.requires.other ∙ ap Some (sym (c.index-builds-other.is ∙ ap (λ xs. get_or xs c.args.other other) c.builds-builds.ensures.value)) in
    let is_one : one ≡ b = cc (one_at, b_at) in
    let is_other : other ≡ o = cc (other_at, o_at) in
    let P : BuildValue → Type 0 = λ x. IsDominated p j x other in
    let Q : BuildValue → Type 0 = λ y. IsDominated p j b y in
    (λ t. subst Q is_other (subst P is_one (c.is_dominated.ensures.0 t)), λ h. c.is_dominated.ensures.1 (subst P (sym is_one) (subst Q (sym is_other) h)))
