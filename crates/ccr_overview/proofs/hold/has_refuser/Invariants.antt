use Rattle.std.proofs.Common.{◌≡◌, drop}
use Rattle.std.specs.List.{list_any}
use Rattle.ccr_overview.specs.Holds.{refuses_pair}
use Rattle.ccr_overview.specs.Scenes.{scene_data}
use Rattle.ccr_overview.proofs.hold.has_refuser.Given as goal

abbrev pub invariant-loop-taken : goal.invariant-loop-taken
invariant-loop-taken l =
    list_any (refuses_pair (scene_data l.scene) l.pair) (drop l.taken-index l.inputs)
    ≡ list_any (refuses_pair (scene_data l.scene) l.pair) l.inputs
