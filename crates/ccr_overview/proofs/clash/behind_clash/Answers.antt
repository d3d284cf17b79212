use Rattle.std.proofs.Common.{codes}
use Rattle.ccr_overview.proofs.Clashing.{stripped_from}
use Rattle.ccr_overview.proofs.clash.behind_clash.Goals as goal

pub returns : goal.returns
returns c = stripped_from (codes "clash: ") c.args.words.now c.strip_prefix.result c.strip_prefix.ensures.cases
