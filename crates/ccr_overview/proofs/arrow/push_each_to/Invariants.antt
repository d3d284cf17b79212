use Rattle.std.proofs.Common.{◌≡◌, ◌++◌, drop, map}
use Rattle.ccr_overview.specs.Arrows.{arrows_to}
use Rattle.ccr_overview.specs.Each.{each_from}
use Rattle.ccr_overview.specs.Scenes.{scene_data, told_data}
use Rattle.ccr_overview.proofs.arrow.push_each_to.Given as goal

abbrev pub invariant-loop-k : goal.invariant-loop-k
invariant-loop-k l =
    l.out.items ++ each_from (arrows_to (scene_data l.scene)) l.k (map told_data (drop l.k l.all)) ≡ l.fn.out.items ++ each_from (arrows_to (scene_data l.scene)) 0 (map told_data l.all)
