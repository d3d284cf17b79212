use Rattle.std.proofs.Common.{◌≡◌, ◌<◌, ◌∙◌, ℕ, List, Option, slice_index, inl, inr, sym, ap, subst, arith}
use Rattle.std.proofs.lemmas.Bool.{cases_lt, false≢true}
use Rattle.ccr_choice.specs.Problem.{input_at, are_places_after}
use Rattle.ccr_choice.specs.Preference.{order_of}
use Rattle.ccr_choice.specs.Assignment.{nothing_fixed}
use Rattle.ccr_choice.specs.Possible.{IsBestPlace}
use Rattle.ccr_choice.proofs.Lookups.{places_rise}
use Rattle.ccr_choice.proofs.Places.{input_is, places_kept}
use Rattle.ccr_index.specs.Ranks.{ranked, AreRankedOf}
use Rattle.ccr_index.specs.Index.{HasPassed}
use Rattle.ccr_index.proofs.BestLaws.{first_passed, none_passed}
use Rattle.ccr_index.proofs.build.top_of.Goals as goal

pub ranks_of-ranks-requires : goal.ranks_of-ranks-requires
ranks_of-ranks-requires c =
    let p = c.args.problem.now in
    let i = c.args.input in
    let is = input_is p c.inputs.result.now i c.index-inputs-input.result c.inputs.ensures.value c.requires.input c.index-inputs-input.is in
    places_rise c.places-places.result.now 0 (ap (are_places_after 0) (c.places-places.ensures ∙ ap (λ x. x.places) is) ∙ places_kept p i c.inputs.ensures.kept c.requires.input)

pub returns-then-have_passed : goal.returns-then-have_passed
returns-then-have_passed c =
    let p = c.args.problem.now in
    let i = c.args.input in
    let xs = c.places-places.result.now in
    let above = c.ranks_of-ranks.result.above in
    let to = c.ranks_of-ranks.result.to in
    let is = input_is p c.inputs.result.now i c.index-inputs-input.result c.inputs.ensures.value c.requires.input c.index-inputs-input.is in
    let same : xs ≡ (input_at p i).places = c.places-places.ensures ∙ ap (λ x. x.places) is in
    let kept : c.after.result ≡ (input_at p i).after = c.after.ensures ∙ ap (λ x. x.after) is in
    let A : List ℕ → Type 0 = λ ys. AreRankedOf c.after.result ys above to in
    let B : Option ℕ → Type 0 = λ o. AreRankedOf o (input_at p i).places above to in
    let ranks : B (input_at p i).after = subst B kept (subst A same c.ranks_of-ranks.ensures) in
    let N : List ℕ → Type 0 = λ ys. (s : ℕ) → s < c.loop-rank.rank → HasPassed p nothing_fixed i (slice_index ys (ranked above to s)) → ⊥ in
    let none : N (input_at p i).places = subst N same c.loop-rank.invariant in
    let k = c.position.result in
    let H : List ℕ → Type 0 = λ ys. HasPassed p nothing_fixed i (slice_index ys k) in
    let K : ℕ → Type 0 = λ m. HasPassed p nothing_fixed i (slice_index (input_at p i).places m) in
    let R : List ℕ → Type 0 = λ ys. IsBestPlace (order_of p) p nothing_fixed i (slice_index ys k) in
    let S : ℕ → Type 0 = λ m. IsBestPlace (order_of p) p nothing_fixed i (slice_index (input_at p i).places m) in
    subst R (sym same) (subst S (sym c.position.ensures.value) (first_passed p i above to ranks c.loop-rank.rank c.loop-rank-test.true (subst K c.position.ensures.value (subst H same (c.have_passed.ensures.0 c.if-have_passed.true))) none))

pub loop-rank-preserved : goal.loop-rank-preserved
loop-rank-preserved c =
    let p = c.args.problem.now in
    let i = c.args.input in
    let xs = c.places-places.result.now in
    let k = c.position.result in
    λ s less h. elim (cases_lt s c.loop-rank.rank) [
      | inl early ↦ c.loop-rank.invariant s early h
      | inr late ↦ (let now : s ≡ c.loop-rank.rank = omega (arith, late, less) in
          let at : ranked c.ranks_of-ranks.result.above c.ranks_of-ranks.result.to s ≡ k = ap (ranked c.ranks_of-ranks.result.above c.ranks_of-ranks.result.to) now ∙ sym c.position.ensures.value in
          let K : ℕ → Type 0 = λ m. HasPassed p nothing_fixed i (slice_index xs m) in
          false≢true (sym c.if-have_passed.false ∙ c.have_passed.ensures.1 (subst K at h)))
    ]

pub returns : goal.returns
returns c =
    let p = c.args.problem.now in
    let i = c.args.input in
    let xs = c.places-places.result.now in
    let above = c.ranks_of-ranks.result.above in
    let to = c.ranks_of-ranks.result.to in
    let is = input_is p c.inputs.result.now i c.index-inputs-input.result c.inputs.ensures.value c.requires.input c.index-inputs-input.is in
    let same : xs ≡ (input_at p i).places = c.places-places.ensures ∙ ap (λ x. x.places) is in
    let kept : c.after.result ≡ (input_at p i).after = c.after.ensures ∙ ap (λ x. x.after) is in
    let A : List ℕ → Type 0 = λ ys. AreRankedOf c.after.result ys above to in
    let B : Option ℕ → Type 0 = λ o. AreRankedOf o (input_at p i).places above to in
    let ranks : B (input_at p i).after = subst B kept (subst A same c.ranks_of-ranks.ensures) in
    let N : List ℕ → Type 0 = λ ys. (s : ℕ) → s < c.loop-rank.rank → HasPassed p nothing_fixed i (slice_index ys (ranked above to s)) → ⊥ in
    let none : N (input_at p i).places = subst N same c.loop-rank.invariant in
    none_passed p i above to ranks c.loop-rank.rank (omega (arith, c.loop-rank-test.false)) none
