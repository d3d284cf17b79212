use Rattle.std.proofs.Common.{◌<◌, arith}
use Rattle.ccr_pipeline.proofs.StepLemmas.{step_tree-below}
use Rattle.ccr_pipeline.proofs.build_step.+build.Goals as goal

pub step_of-returns : goal.step_of-returns
step_of-returns t c =
    let some : 0 < c.args.left = omega arith in
    rw (step_tree-below _ _ some, ← c.in_ok-action.ensures, ← c.in_ok-tried.ensures) c.add_hooks.ensures
