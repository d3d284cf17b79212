use Rattle.std.proofs.Common.{◌∙◌, ap, length, arith}
use Rattle.std.proofs.lemmas.List.Sums.{count_by-le-length}
use Rattle.ccr_history.specs.Builds.{is_of}
use Rattle.ccr_history.proofs.Positions.{length-positions}
use Rattle.ccr_history.proofs.builds.Builds.count_of.Goals as goal

pub overflow_cast-result : goal.overflow_cast-result
overflow_cast-result c =
    let counted = ap length c.builds_of.ensures.is ∙ length-positions (is_of c.args.job.now) c.args.self.now in
    omega (arith, counted, count_by-le-length (is_of c.args.job.now) c.args.self.now, c.builds_of.ensures.orderly.0)

pub returns : goal.returns
returns c = ap length c.builds_of.ensures.is ∙ length-positions (is_of c.args.job.now) c.args.self.now
