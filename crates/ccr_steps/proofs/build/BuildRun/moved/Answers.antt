use Rattle.std.proofs.Common.{map, ap, ◌∙◌}
use Rattle.ccr_steps.specs.Gains.{moved_data}
use Rattle.ccr_steps.specs.Runs.{run_data}
use Rattle.ccr_steps.proofs.Standing.{stands_moved}
use Rattle.ccr_steps.proofs.build.BuildRun.moved.Goals as goal

pub returns : goal.returns
returns c = λ plan inputs es s o g m. ap (map moved_data) c.deref.ensures.value ∙ stands_moved (run_data c.args.self.now) plan inputs es s o g m
