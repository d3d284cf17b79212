use Rattle.std.proofs.Common.{◌≡◌, ◌∙◌, length, ap, arith}
use Rattle.ccr_choice.specs.Table.{assigned}
use Rattle.ccr_resolve.specs.Search.{numbers_of}
use Rattle.ccr_resolve.proofs.choice.fixed_numbers.Goals as goal

pub returns : goal.returns
returns c =
    let p = c.args.index.now.problem in
    let all : c.loop-j.j ≡ length p.jobs = omega (arith, c.loop-j-test.false, c.loop-j.auto, c.job_count-j-end.ensures.value) in
    c.loop-j.invariant ∙ ap (numbers_of (assigned p c.args.fixed.now)) all
