use Rattle.ccr_page.proofs.LinkLaws.{link_stays}
use Rattle.ccr_page.proofs.law.no_link_leaves.Goals as goal

pub returns : goal.returns
returns c = link_stays
