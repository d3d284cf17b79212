use Rattle.std.proofs.Common.{◌≡◌, drop}
use Rattle.std.specs.List.{list_any}
use Rattle.ccr_overview.specs.Holds.{takes_pair}
use Rattle.ccr_overview.specs.Scenes.{scene_data}
use Rattle.ccr_overview.proofs.hold.has_taker.Given as goal

abbrev pub invariant-loop-taken : goal.invariant-loop-taken
invariant-loop-taken l =
    list_any (takes_pair (scene_data l.scene) l.pair) (drop l.taken-index l.inputs)
    ≡ list_any (takes_pair (scene_data l.scene) l.pair) l.inputs
