use Rattle.std.proofs.Common.{sym, ◌∙◌}
use Rattle.ccr_findings.proofs.Strays.{stray_of}
use Rattle.ccr_findings.proofs.keys.stray_key.Goals as goal

pub returns-in_ok-line-in-Some : goal.returns-in_ok-line-in-Some
returns-in_ok-line-in-Some c =
    stray_of c.args.path.now c.args.key.now c.in-Some.owner c.name_of-owner.result.now _ (sym c.owner_of.ensures ∙ c.in-Some.is) c.name_of-owner.ensures c.in_ok-line-in-Some.ensures.ok
