use Rattle.std.proofs.Common.{◌≡◌, ◌++◌, drop, map, string_bytes}
use Rattle.ccr_overview.specs.PageData.{row_data}
use Rattle.ccr_overview.specs.PageRows.{rows_at}
use Rattle.ccr_overview.specs.Scenes.{scene_data}
use Rattle.ccr_overview.proofs.row.rows_at.Given as goal

abbrev pub invariant-loop-position : goal.invariant-loop-position
invariant-loop-position l =
    map row_data l.rows.items ++ rows_at (scene_data l.scene) (map string_bytes l.names) (drop l.position-index l.positions) ≡ rows_at (scene_data l.scene) (map string_bytes l.names) l.positions
