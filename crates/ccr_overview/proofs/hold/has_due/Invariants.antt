use Rattle.std.proofs.Common.{◌≡◌, drop, map}
use Rattle.ccr_overview.specs.Holds.{has_due}
use Rattle.ccr_overview.specs.Scenes.{scene_data, told_data}
use Rattle.ccr_overview.proofs.hold.has_due.Given as goal

abbrev pub invariant-loop-it : goal.invariant-loop-it
invariant-loop-it l =
    has_due (scene_data l.scene) l.name l.pair (map told_data (drop l.it-index l.all))
    ≡ has_due (scene_data l.scene) l.name l.pair (map told_data l.all)
