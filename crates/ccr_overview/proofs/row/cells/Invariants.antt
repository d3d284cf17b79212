use Rattle.std.proofs.Common.{◌≡◌, map, option_map, string_bytes, take}
use Rattle.ccr_overview.specs.PageData.{cell_data}
use Rattle.ccr_overview.specs.PageRows.{cell}
use Rattle.ccr_overview.proofs.row.cells.Given as goal

abbrev pub invariant-loop-name : goal.invariant-loop-name
invariant-loop-name l =
    map (option_map cell_data) l.all.items ≡ map (cell l.history l.build) (map string_bytes (take l.name-index l.names))
