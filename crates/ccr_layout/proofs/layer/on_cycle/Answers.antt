use Rattle.ccr_layout.proofs.CycleLaws.{can_be_next}
use Rattle.ccr_layout.proofs.layer.on_cycle.Goals as goal

pub returns-in-Some : goal.returns-in-Some
returns-in-Some c =
    can_be_next c.args.named.now c.args.done.now c.requires.none c.requires.long c.in-Some.start c.walked_back.result c.in-Some.ensures.left c.walked_back.ensures
