use Rattle.std.proofs.Common.{◌≡◌, ◌++◌, drop, map}
use Rattle.ccr_overview.specs.Arrows.{arrows_from}
use Rattle.ccr_overview.specs.Each.{each_from}
use Rattle.ccr_overview.specs.Scenes.{told_data}
use Rattle.ccr_pipeline.specs.JobData.{resource_data}
use Rattle.ccr_overview.proofs.arrow.push_each_from.Given as goal

abbrev pub invariant-loop-k : goal.invariant-loop-k
invariant-loop-k l =
    l.out.items ++ each_from (arrows_from (map resource_data l.resources)) l.k (map told_data (drop l.k l.all)) ≡ l.fn.out.items ++ each_from (arrows_from (map resource_data l.resources)) 0 (map told_data l.all)
