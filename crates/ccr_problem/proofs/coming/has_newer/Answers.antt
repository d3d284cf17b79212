use Rattle.std.proofs.Common.{◌≤◌, ◌∙◌, sym, arith}
use Rattle.ccr_history.specs.Builds.{count_of}
use Rattle.ccr_problem.proofs.Newer.{one_newer, none_next, none_newer_than}
use Rattle.ccr_problem.proofs.coming.has_newer.Goals as goal

pub returns-then-has_succeeded : goal.returns-then-has_succeeded
returns-then-has_succeeded c =
    sym (c.loop-newer.invariant ∙ one_newer c.args.job.now c.loop-newer.newer c.args.history.now.builds (sym c.if-has_succeeded.ensures))

pub loop-newer-preserved : goal.loop-newer-preserved
loop-newer-preserved c =
    c.loop-newer.invariant ∙ none_next c.args.job.now c.loop-newer.newer c.args.history.now.builds c.rules.ensures.1.1 (sym c.if-has_succeeded.ensures)

pub returns : goal.returns
returns c =
    let most : count_of c.args.job.now c.args.history.now.builds ≤ c.loop-newer.newer = omega (arith, c.count_of-newer-end.ensures, c.loop-newer-test.false) in
    sym (c.loop-newer.invariant ∙ none_newer_than c.args.job.now c.loop-newer.newer c.args.history.now.builds c.rules.ensures.1.1 most)
