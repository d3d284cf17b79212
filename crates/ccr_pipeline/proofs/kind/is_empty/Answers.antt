use Rattle.std.proofs.Common.{arith}
use Rattle.std.proofs.lemmas.Bool.Decides.{nat_tests}
use Rattle.ccr_pipeline.proofs.Members.{is_empty-members_view}
use Rattle.ccr_pipeline.proofs.kind.is_empty.Goals as goal

pub returns : goal.returns
returns c = grind (arith, nat_tests, is_empty-members_view c.args.members.now.entries)
