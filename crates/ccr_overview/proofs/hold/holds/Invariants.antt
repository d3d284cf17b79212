use Rattle.std.proofs.Common.{◌≡◌, ◌++◌, drop, map}
use Rattle.ccr_overview.specs.Holds.{hold_data, holds}
use Rattle.ccr_overview.specs.Scenes.{scene_data}
use Rattle.ccr_overview.proofs.hold.holds.Given as goal

abbrev pub invariant-loop-taken : goal.invariant-loop-taken
invariant-loop-taken l =
    map hold_data l.all.items ++ holds (scene_data l.scene) (drop l.taken-index l.inputs) ≡ holds (scene_data l.scene) l.inputs
