use Rattle.ccr_choice.proofs.Lookups.{builds_ascend}
use Rattle.ccr_choice.proofs.possible.can_have_passed.Goals as goal

pub some_has_pair-requires : goal.some_has_pair-requires
some_has_pair-requires c = builds_ascend _ c.builds.result.now c.builds.ensures.kept
