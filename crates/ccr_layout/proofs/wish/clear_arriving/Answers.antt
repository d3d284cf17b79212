use Rattle.std.proofs.Common.{◌≡◌, ℕ, ◌+◌, ◌<◌, List, length, take, cond, eqb, sym, ◌∙◌, subst, arith}
use Rattle.std.specs.List.{list_any}
use Rattle.ccr_layout.specs.declared.mean.Mean.{Mean}
use Rattle.ccr_layout.specs.Means.{nothing, mean_in}
use Rattle.ccr_layout.proofs.MeanLaws.{cleared_more, cleared_all}
use Rattle.ccr_layout.proofs.wish.clear_arriving.Goals as goal

pub loop-line-preserved : goal.loop-line-preserved
loop-line-preserved c =
    let lines = c.args.arriving.now in
    let i = c.loop-line.line-index in
    let old = c.args.means.now.items in
    let P : List Mean → Type 0 = λ ms. (k : ℕ) → k < length old → mean_in ms k ≡ cond (list_any (λ x. eqb x.to k) (take (i + 1) lines)) nothing (mean_in old k) in
    record {
      long = c.clear_at.ensures.long ∙ c.loop-line.invariant.long;
      each = subst P (sym c.clear_at.ensures.value) (cleared_more lines i c.loop-line.means.items old c.loop-line-test.true c.loop-line.invariant.long c.loop-line.invariant.each);
    }

pub returns-clause-each : goal.returns-clause-each
returns-clause-each c =
    cleared_all c.args.arriving.now c.loop-line.line-index c.loop-line.means.items c.args.means.now.items (omega (arith, c.loop-line-test.false)) c.loop-line.invariant.each
