use Rattle.std.proofs.Common.{◌≡◌, ◌<◌, ℕ, Option, length, slice_index_or, true, ap, ◌∙◌, arith, subst, sym}
use Rattle.std.specs.Prelude.{Contains}
use Rattle.std.proofs.lemmas.Bool.{false≢true}
use Rattle.std.proofs.lemmas.List.{get_or_default}
use Rattle.ccr_choice.specs.Problem.{input_at}
use Rattle.ccr_choice.specs.Preference.{order_of, prefers_after}
use Rattle.ccr_index.specs.Ranks.{AreRankedIn}
use Rattle.ccr_index.specs.Index.{IsPossibleWith}
use Rattle.ccr_index.proofs.RankLaws.{pairs_next, pairs_done, pairs_past, pairs_first, pairs_low}
use Rattle.ccr_index.proofs.GrowLaws.{top_stays, top_rises}
use Rattle.ccr_index.proofs.index.Index.top_with.Goals.{then-at-scope-via-then-at-scope, then-at-scope-via-else-at-scope+then-not-is_preferred}
use Rattle.ccr_index.proofs.index.Index.top_with.Goals as goal

pub position-requires-clause-above : goal.position-requires-clause-above
position-requires-clause-above c = c.ranks_in-ranks.ensures.ranks.split

pub loop-rank-preserved : goal.loop-rank-preserved
loop-rank-preserved c =
    let p = c.args.self.now.problem in
    let i = c.args.input in
    let xs = c.args.pairs.now in
    let scope = c.scope-scope.result in
    let above = c.ranks_in-ranks.result.above in
    let to = c.ranks_in-ranks.result.to in
    let P : ℕ → Type 0 = IsPossibleWith p c.args.job i in
    let kept : c.after-after.result ≡ (input_at p i).after = c.after-after.ensures ∙ ap (λ x. x.after) c.input-rows.ensures.value in
    let A : Option ℕ → Type 0 = λ o. AreRankedIn o xs scope above to in
    let ranks : AreRankedIn (input_at p i).after xs scope above to = subst A kept c.ranks_in-ranks.ensures in
    let named : scope ≡ (input_at p i).scope = c.scope-scope.ensures ∙ ap (λ x. x.scope) c.input-rows.ensures.value in
    let has : (place : ℕ) → Contains xs ((input_at p i).scope, place) → Contains xs (scope, place) = λ place h. (let C : ℕ → Type 0 = λ s. Contains xs (s, place) in subst C (sym named) h) in
    pairs_next (input_at p i).after xs scope above to ranks P c.loop-rank.rank c.position.result c.position.ensures.value c.loop-rank.invariant (λ counts h. false≢true (sym c.if-is_possible_with.false ∙ c.is_possible_with.ensures.1 h))

pub returns-then-at-scope : goal.returns-then-at-scope
returns-then-at-scope c =
    let p = c.args.self.now.problem in
    let i = c.args.input in
    let xs = c.args.pairs.now in
    let scope = c.scope-scope.result in
    let above = c.ranks_in-ranks.result.above in
    let to = c.ranks_in-ranks.result.to in
    let P : ℕ → Type 0 = IsPossibleWith p c.args.job i in
    let kept : c.after-after.result ≡ (input_at p i).after = c.after-after.ensures ∙ ap (λ x. x.after) c.input-rows.ensures.value in
    let A : Option ℕ → Type 0 = λ o. AreRankedIn o xs scope above to in
    let ranks : AreRankedIn (input_at p i).after xs scope above to = subst A kept c.ranks_in-ranks.ensures in
    let named : scope ≡ (input_at p i).scope = c.scope-scope.ensures ∙ ap (λ x. x.scope) c.input-rows.ensures.value in
    let has : (place : ℕ) → Contains xs ((input_at p i).scope, place) → Contains xs (scope, place) = λ place h. (let C : ℕ → Type 0 = λ s. Contains xs (s, place) in subst C (sym named) h) in
    let top = c.top-top.result in
    let k = c.position.result in
    let None : Type 0 = (place : ℕ) → P place → Contains xs ((input_at p i).scope, place) → order_of p i place top ≡ true → ⊥ in
    let none : None = elim c.then-at-scope.branch [
      | then-at-scope-via-then-at-scope w ↦
          (λ place h in' better. pairs_past (input_at p i).after xs scope above to ranks P c.loop-rank.rank k c.loop-rank.invariant c.loop-rank-test.true c.position.ensures.value w.if-at-scope.true place h (has place in'))
      | then-at-scope-via-else-at-scope+then-not-is_preferred w ↦
          (λ place h in' better.
          let low : prefers_after (input_at p i).after (slice_index_or xs k (0, 0)).1 top ≡ true → ⊥ = λ t. false≢true (sym w.if-not-is_preferred.true ∙ w.is_preferred.ensures ∙ ap (λ o. prefers_after o (slice_index_or xs k (0, 0)).1 top) kept ∙ t) in
          pairs_low (input_at p i).after xs scope above to ranks P c.loop-rank.rank k c.loop-rank.invariant c.loop-rank-test.true c.position.ensures.value top w.if-at-scope.false low place h (has place in') better)
    ] in
    λ number. top_stays p c.args.job (record { number = number; pairs = xs }) i c.requires.job top c.top-top.ensures c.input-rows.ensures.kept c.requires.input none

pub returns-then-is_possible_with : goal.returns-then-is_possible_with
returns-then-is_possible_with c =
    let p = c.args.self.now.problem in
    let i = c.args.input in
    let xs = c.args.pairs.now in
    let scope = c.scope-scope.result in
    let above = c.ranks_in-ranks.result.above in
    let to = c.ranks_in-ranks.result.to in
    let P : ℕ → Type 0 = IsPossibleWith p c.args.job i in
    let kept : c.after-after.result ≡ (input_at p i).after = c.after-after.ensures ∙ ap (λ x. x.after) c.input-rows.ensures.value in
    let A : Option ℕ → Type 0 = λ o. AreRankedIn o xs scope above to in
    let ranks : AreRankedIn (input_at p i).after xs scope above to = subst A kept c.ranks_in-ranks.ensures in
    let named : scope ≡ (input_at p i).scope = c.scope-scope.ensures ∙ ap (λ x. x.scope) c.input-rows.ensures.value in
    let has : (place : ℕ) → Contains xs ((input_at p i).scope, place) → Contains xs (scope, place) = λ place h. (let C : ℕ → Type 0 = λ s. Contains xs (s, place) in subst C (sym named) h) in
    let top = c.top-top.result in
    let k = c.position.result in
    let x = (slice_index_or xs k (0, 0)).1 in
    let first : order_of p i x top ≡ true = sym (ap (λ o. prefers_after o x top) kept) ∙ sym c.is_preferred.ensures ∙ c.if-not-is_preferred.false in
    let q = slice_index_or xs k (0, 0) in
    let inside : k < length xs = omega (arith, c.position.ensures.below, c.ranks_in-ranks.ensures.within) in
    let Q : ℕ × ℕ → Type 0 = λ y. Contains xs y in
    let here : Contains xs ((input_at p i).scope, x) = subst Q (ap (λ s. (s, x)) (c.if-at-scope.false ∙ named)) (k, inside, sym (get_or_default xs k (0, 0) q inside)) in
    λ number. top_rises p c.args.job (record { number = number; pairs = xs }) i c.requires.job top c.top-top.ensures x first here (c.is_possible_with.ensures.0 c.if-is_possible_with.true)
    (λ place h in' better. pairs_first (input_at p i).after xs scope above to ranks P c.loop-rank.rank k c.loop-rank.invariant c.loop-rank-test.true c.position.ensures.value c.if-at-scope.false place h (has place in') better)

pub returns : goal.returns
returns c =
    let p = c.args.self.now.problem in
    let i = c.args.input in
    let xs = c.args.pairs.now in
    let scope = c.scope-scope.result in
    let above = c.ranks_in-ranks.result.above in
    let to = c.ranks_in-ranks.result.to in
    let P : ℕ → Type 0 = IsPossibleWith p c.args.job i in
    let kept : c.after-after.result ≡ (input_at p i).after = c.after-after.ensures ∙ ap (λ x. x.after) c.input-rows.ensures.value in
    let A : Option ℕ → Type 0 = λ o. AreRankedIn o xs scope above to in
    let ranks : AreRankedIn (input_at p i).after xs scope above to = subst A kept c.ranks_in-ranks.ensures in
    let named : scope ≡ (input_at p i).scope = c.scope-scope.ensures ∙ ap (λ x. x.scope) c.input-rows.ensures.value in
    let has : (place : ℕ) → Contains xs ((input_at p i).scope, place) → Contains xs (scope, place) = λ place h. (let C : ℕ → Type 0 = λ s. Contains xs (s, place) in subst C (sym named) h) in
    let top = c.top-top.result in
    λ number. top_stays p c.args.job (record { number = number; pairs = xs }) i c.requires.job top c.top-top.ensures c.input-rows.ensures.kept c.requires.input
    (λ place h in' better. pairs_done (input_at p i).after xs scope above to ranks P c.loop-rank.rank c.loop-rank.invariant (omega (arith, c.loop-rank-test.false)) place h (has place in'))
