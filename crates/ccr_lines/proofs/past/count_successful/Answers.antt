use Rattle.std.proofs.Common.{◌∙◌, ◌∷◌, [], refl, sym, arith}
use Rattle.ccr_lines.proofs.PastLaws.{count_told, few_chosen, few_counted}
use Rattle.ccr_lines.proofs.past.count_successful.Goals as goal

pub overflow_add-count : goal.overflow_add-count
overflow_add-count c =
    let builds = c.args.history.now.builds in
    let test = c.loop-k-test.true in
    let whole = c.requires in
    let most = few_counted c.args.job.now builds c.loop-k.k (omega arith) in
    let one = few_chosen c.args.job.now (c.unwrap-build.result ∷ []) in
    omega (arith, most, one, c.loop-k.invariant, c.count_one-count.ensures, c.ranges.before.fits)

pub loop-k-preserved : goal.loop-k-preserved
loop-k-preserved c =
    count_told c.args.job.now c.args.history.now.builds c.loop-k.k c.unwrap-build.result c.loop-k.count
    c.count_one-count.result _ (sym c.build_at.ensures ∙ c.unwrap-build.ensures) c.loop-k.invariant
    c.count_one-count.ensures refl
