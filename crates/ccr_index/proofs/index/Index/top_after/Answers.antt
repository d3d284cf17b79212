use Rattle.std.proofs.Common.{◌≡◌, ◌<◌, ℕ, List, Some, inl, inr, slice_index, ap, ◌∙◌, arith, subst, sym}
use Rattle.std.proofs.lemmas.Bool.{cases_lt, false≢true}
use Rattle.ccr_choice.specs.Problem.{input_at}
use Rattle.ccr_choice.specs.Preference.{order_of}
use Rattle.ccr_choice.specs.Assignment.{Assignment, nothing_fixed}
use Rattle.ccr_choice.specs.Possible.{IsBestPlace}
use Rattle.ccr_choice.proofs.TableLaws.{table_empty}
use Rattle.ccr_index.specs.Ranks.{ranked, AreRankedOf}
use Rattle.ccr_index.specs.Index.{HasPassed, with_after}
use Rattle.ccr_index.proofs.AfterLaws.{first_after, none_after}
use Rattle.ccr_index.proofs.index.Index.top_after.Goals as goal

pub returns-then-has_passed : goal.returns-then-has_passed
returns-then-has_passed c =
    let p = c.args.self.now.problem in
    let i = c.args.input in
    let xs = c.places-places.result.now in
    let above = c.ranks_of-ranks.result.above in
    let to = c.ranks_of-ranks.result.to in
    let same : xs ≡ (input_at p i).places = c.places-places.ensures ∙ ap (λ x. x.places) c.input.ensures.value in
    let A : List ℕ → Type 0 = λ ys. AreRankedOf (Some c.args.kept) ys above to in
    let ranks : A (input_at p i).places = subst A same c.ranks_of-ranks.ensures in
    let N : List ℕ → Type 0 = λ ys. (s : ℕ) → s < c.loop-rank.rank → HasPassed p nothing_fixed i (slice_index ys (ranked above to s)) → ⊥ in
    let none : N (input_at p i).places = subst N same c.loop-rank.invariant in
    let k = c.position.result in
    let E : Assignment → Type 0 = λ a. HasPassed p a i (slice_index xs k) in
    let passed : HasPassed p nothing_fixed i (slice_index xs k) = subst E (table_empty p 32) (c.has_passed.ensures.0 c.if-has_passed.true) in
    let H : List ℕ → Type 0 = λ ys. HasPassed p nothing_fixed i (slice_index ys k) in
    let K : ℕ → Type 0 = λ m. HasPassed p nothing_fixed i (slice_index (input_at p i).places m) in
    let R : List ℕ → Type 0 = λ ys. IsBestPlace (order_of (with_after p i c.args.kept)) (with_after p i c.args.kept) nothing_fixed i (slice_index ys k) in
    let S : ℕ → Type 0 = λ m. IsBestPlace (order_of (with_after p i c.args.kept)) (with_after p i c.args.kept) nothing_fixed i (slice_index (input_at p i).places m) in
    subst R (sym same) (subst S (sym c.position.ensures.value) (first_after p i c.args.kept above to c.requires ranks c.loop-rank.rank c.loop-rank-test.true (subst K c.position.ensures.value (subst H same passed)) none))

pub loop-rank-preserved : goal.loop-rank-preserved
loop-rank-preserved c =
    let p = c.args.self.now.problem in
    let i = c.args.input in
    let xs = c.places-places.result.now in
    let k = c.position.result in
    λ s less h. elim (cases_lt s c.loop-rank.rank) [
      | inl early ↦ c.loop-rank.invariant s early h
      | inr late ↦ (let now : s ≡ c.loop-rank.rank = omega (arith, late, less) in
          let at : ranked c.ranks_of-ranks.result.above c.ranks_of-ranks.result.to s ≡ k = ap (ranked c.ranks_of-ranks.result.above c.ranks_of-ranks.result.to) now ∙ sym c.position.ensures.value in
          let K : ℕ → Type 0 = λ m. HasPassed p nothing_fixed i (slice_index xs m) in
          let E : Assignment → Type 0 = λ a. HasPassed p a i (slice_index xs k) in
          false≢true (sym c.if-has_passed.false ∙ c.has_passed.ensures.1 (subst E (sym (table_empty p 32)) (subst K at h))))
    ]

pub returns : goal.returns
returns c =
    let p = c.args.self.now.problem in
    let i = c.args.input in
    let xs = c.places-places.result.now in
    let above = c.ranks_of-ranks.result.above in
    let to = c.ranks_of-ranks.result.to in
    let same : xs ≡ (input_at p i).places = c.places-places.ensures ∙ ap (λ x. x.places) c.input.ensures.value in
    let A : List ℕ → Type 0 = λ ys. AreRankedOf (Some c.args.kept) ys above to in
    let ranks : A (input_at p i).places = subst A same c.ranks_of-ranks.ensures in
    let N : List ℕ → Type 0 = λ ys. (s : ℕ) → s < c.loop-rank.rank → HasPassed p nothing_fixed i (slice_index ys (ranked above to s)) → ⊥ in
    let none : N (input_at p i).places = subst N same c.loop-rank.invariant in
    none_after p i c.args.kept above to c.requires ranks c.loop-rank.rank (omega (arith, c.loop-rank-test.false)) none
