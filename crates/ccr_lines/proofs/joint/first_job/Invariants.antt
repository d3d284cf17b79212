use Rattle.std.proofs.Common.{◌≡◌, drop}
use Rattle.ccr_lines.specs.ClashWords.{first_job}
use Rattle.ccr_lines.proofs.joint.first_job.Given as goal

abbrev pub invariant-loop-demand : goal.invariant-loop-demand
invariant-loop-demand l = first_job (drop l.demand-index l.demands) ≡ first_job l.demands
