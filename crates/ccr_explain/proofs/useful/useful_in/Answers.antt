use Rattle.std.proofs.Common.{◌∙◌, ℕ, List, false, slice_index_or, ap, subst}
use Rattle.std.specs.Prelude.{All}
use Rattle.ccr_explain.specs.Cut.{build_in, MarksBuilds}
use Rattle.ccr_explain.proofs.PairLaws.{use_is_marked}
use Rattle.ccr_explain.proofs.useful.useful_in.Goals as goal

pub useful_marked-requires-clause-marked : goal.useful_marked-requires-clause-marked
useful_marked-requires-clause-marked c = λ k within use_of.
    let x = c.in-Some.input.now in
    let builds = c.args.rows.now.builds in
    let marks = c.in_ok-marks-in-Some.marks.items in
    let A : ℕ → Type 0 = λ s. All (λ place. MarksBuilds builds marks (s, place)) c.places.result.now in
    let B : List ℕ → Type 0 = λ ps. All (λ place. MarksBuilds builds marks (x.scope, place)) ps in
    let all = subst B c.places.ensures (subst A c.scope.ensures c.in_ok-marks-in-Some.ensures) in
    ap (λ ms. slice_index_or ms k false) c.deref.ensures.value ∙ use_is_marked x builds marks all k within (c.in-Some.ensures (build_in builds k) use_of)
