use Rattle.std.proofs.Common.{◌∙◌, sym}
use Rattle.ccr_history.proofs.Numbered.{build_of-only}
use Rattle.ccr_history.proofs.builds.Builds.build.Goals as goal

pub returns : goal.returns
returns c =
    c.at.ensures ∙ sym (build_of-only c.args.job.now c.args.number c.args.self.now c.in_ok-position.position c.in_ok-position.ensures.only)
