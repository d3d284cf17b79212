use Rattle.std.proofs.Common.{arith}
use Rattle.std.proofs.lemmas.Grind.{common_steps}
use Rattle.ccr_findings.proofs.SameNames.{seen_pushed}
use Rattle.ccr_findings.proofs.seen.Seen.push.Goals as goal

pub invariant_of-self-in-Ok : goal.invariant_of-self-in-Ok
invariant_of-self-in-Ok c =
    seen_pushed _ _ _ _ c.args.name.now c.self.invariant (grind (arith, common_steps, c.in_ok-push.ensures.items)) c.in-Ok.ensures.added
