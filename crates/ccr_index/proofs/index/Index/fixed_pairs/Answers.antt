use Rattle.std.proofs.Common.{◌≡◌, suc, slice_index, arith, ap, ◌∙◌, Some}
use Rattle.std.proofs.lemmas.Grind.{common_steps}
use Rattle.ccr_index.proofs.BestLaws.{fixed_some, fixed_none}
use Rattle.ccr_index.proofs.index.Index.fixed_pairs.Goals as goal

pub returns-then-build-len-clause-value : goal.returns-then-build-len-clause-value
returns-then-build-len-clause-value c =
    let at : slice_index c.args.fixed.now c.args.job ≡ suc c.in_ok-build.build = grind (arith, common_steps) in
    ap Some c.pairs.ensures.value ∙ fixed_some c.args.self.now.problem c.args.fixed.now c.args.job c.in_ok-build.build c.rows-rows.result.now.builds c.rows-rows.ensures.value at (grind (arith, common_steps))

pub returns-else-build-len-clause-value : goal.returns-else-build-len-clause-value
returns-else-build-len-clause-value c =
    let at : slice_index c.args.fixed.now c.args.job ≡ suc c.in_ok-build.build = grind (arith, common_steps) in
    fixed_none c.args.self.now.problem c.args.fixed.now c.args.job c.in_ok-build.build c.rows-rows.result.now.builds c.rows-rows.ensures.value at (grind (arith, common_steps))
