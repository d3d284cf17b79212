use Rattle.std.proofs.Common.{◌≡◌, ◌++◌, drop, map}
use Rattle.ccr_overview.specs.Holds.{hold_data, holds, urgent_ones}
use Rattle.ccr_overview.specs.Scenes.{scene_data}
use Rattle.ccr_overview.proofs.hold.urgent_holds.Given as goal

abbrev pub invariant-loop-taken : goal.invariant-loop-taken
invariant-loop-taken l =
    map hold_data l.all.items ++ urgent_ones l.urgency (holds (scene_data l.scene) (drop l.taken-index l.inputs)) ≡ urgent_ones l.urgency (holds (scene_data l.scene) l.inputs)
