use Rattle.std.proofs.Common.{◌≡◌, ℕ, Option, ap, ◌∙◌, arith, subst, sym}
use Rattle.std.specs.Prelude.{Contains}
use Rattle.std.proofs.lemmas.Bool.{false≢true}
use Rattle.ccr_choice.specs.Problem.{input_at}
use Rattle.ccr_choice.specs.Possible.{IsPossible}
use Rattle.ccr_choice.specs.Table.{assigned}
use Rattle.ccr_index.specs.Ranks.{AreRankedIn}
use Rattle.ccr_index.proofs.RankLaws.{pairs_next, pairs_done, pairs_past, pairs_first}
use Rattle.ccr_index.proofs.index.Index.best_in.Goals as goal

pub position-requires-clause-above : goal.position-requires-clause-above
position-requires-clause-above c = c.ranks_in-ranks.ensures.ranks.split

pub loop-rank-preserved : goal.loop-rank-preserved
loop-rank-preserved c =
    let p = c.args.self.now.problem in
    let i = c.args.input in
    let xs = c.args.pairs.now in
    let scope = c.scope-scope.result in
    let above = c.ranks_in-ranks.result.above in
    let to = c.ranks_in-ranks.result.to in
    let P : ℕ → Type 0 = IsPossible p (assigned p c.args.fixed.now) i in
    let kept : c.after.result ≡ (input_at p i).after = c.after.ensures ∙ ap (λ x. x.after) c.input-rows.ensures.value in
    let A : Option ℕ → Type 0 = λ o. AreRankedIn o xs scope above to in
    let ranks : AreRankedIn (input_at p i).after xs scope above to = subst A kept c.ranks_in-ranks.ensures in
    let named : scope ≡ (input_at p i).scope = c.scope-scope.ensures ∙ ap (λ x. x.scope) c.input-rows.ensures.value in
    let has : (place : ℕ) → P place → Contains xs (scope, place) = λ place h. (let C : ℕ → Type 0 = λ s. Contains xs (s, place) in subst C (sym named) (c.requires.all place h)) in
    pairs_next (input_at p i).after xs scope above to ranks P c.loop-rank.rank c.position.result c.position.ensures.value c.loop-rank.invariant (λ counts h. false≢true (sym c.if-is_possible.false ∙ c.is_possible.ensures.1 h))

pub returns-then-at-scope : goal.returns-then-at-scope
returns-then-at-scope c =
    let p = c.args.self.now.problem in
    let i = c.args.input in
    let xs = c.args.pairs.now in
    let scope = c.scope-scope.result in
    let above = c.ranks_in-ranks.result.above in
    let to = c.ranks_in-ranks.result.to in
    let P : ℕ → Type 0 = IsPossible p (assigned p c.args.fixed.now) i in
    let kept : c.after.result ≡ (input_at p i).after = c.after.ensures ∙ ap (λ x. x.after) c.input-rows.ensures.value in
    let A : Option ℕ → Type 0 = λ o. AreRankedIn o xs scope above to in
    let ranks : AreRankedIn (input_at p i).after xs scope above to = subst A kept c.ranks_in-ranks.ensures in
    let named : scope ≡ (input_at p i).scope = c.scope-scope.ensures ∙ ap (λ x. x.scope) c.input-rows.ensures.value in
    let has : (place : ℕ) → P place → Contains xs (scope, place) = λ place h. (let C : ℕ → Type 0 = λ s. Contains xs (s, place) in subst C (sym named) (c.requires.all place h)) in
    λ place h. pairs_past (input_at p i).after xs scope above to ranks P c.loop-rank.rank c.position.result c.loop-rank.invariant c.loop-rank-test.true c.position.ensures.value c.if-at-scope.true place h (has place h)

pub returns-then-is_possible : goal.returns-then-is_possible
returns-then-is_possible c =
    let p = c.args.self.now.problem in
    let i = c.args.input in
    let xs = c.args.pairs.now in
    let scope = c.scope-scope.result in
    let above = c.ranks_in-ranks.result.above in
    let to = c.ranks_in-ranks.result.to in
    let P : ℕ → Type 0 = IsPossible p (assigned p c.args.fixed.now) i in
    let kept : c.after.result ≡ (input_at p i).after = c.after.ensures ∙ ap (λ x. x.after) c.input-rows.ensures.value in
    let A : Option ℕ → Type 0 = λ o. AreRankedIn o xs scope above to in
    let ranks : AreRankedIn (input_at p i).after xs scope above to = subst A kept c.ranks_in-ranks.ensures in
    let named : scope ≡ (input_at p i).scope = c.scope-scope.ensures ∙ ap (λ x. x.scope) c.input-rows.ensures.value in
    let has : (place : ℕ) → P place → Contains xs (scope, place) = λ place h. (let C : ℕ → Type 0 = λ s. Contains xs (s, place) in subst C (sym named) (c.requires.all place h)) in (
      c.is_possible.ensures.0 c.if-is_possible.true,
      λ place h better. pairs_first (input_at p i).after xs scope above to ranks P c.loop-rank.rank c.position.result c.loop-rank.invariant c.loop-rank-test.true c.position.ensures.value c.if-at-scope.false place h (has place h) better,
    )

pub returns : goal.returns
returns c =
    let p = c.args.self.now.problem in
    let i = c.args.input in
    let xs = c.args.pairs.now in
    let scope = c.scope-scope.result in
    let above = c.ranks_in-ranks.result.above in
    let to = c.ranks_in-ranks.result.to in
    let P : ℕ → Type 0 = IsPossible p (assigned p c.args.fixed.now) i in
    let kept : c.after.result ≡ (input_at p i).after = c.after.ensures ∙ ap (λ x. x.after) c.input-rows.ensures.value in
    let A : Option ℕ → Type 0 = λ o. AreRankedIn o xs scope above to in
    let ranks : AreRankedIn (input_at p i).after xs scope above to = subst A kept c.ranks_in-ranks.ensures in
    let named : scope ≡ (input_at p i).scope = c.scope-scope.ensures ∙ ap (λ x. x.scope) c.input-rows.ensures.value in
    let has : (place : ℕ) → P place → Contains xs (scope, place) = λ place h. (let C : ℕ → Type 0 = λ s. Contains xs (s, place) in subst C (sym named) (c.requires.all place h)) in
    λ place h. pairs_done (input_at p i).after xs scope above to ranks P c.loop-rank.rank c.loop-rank.invariant (omega (arith, c.loop-rank-test.false)) place h (has place h)
