use Rattle.std.proofs.Common.{◌≡◌, map, take}
use Rattle.ccr_history.specs.Edits.{edit_data, HaveTheirNumbers}
use Rattle.ccr_core.specs.Holding.{name_data}
use Rattle.ccr_core.specs.Resumed.{cut_name}
use Rattle.ccr_core.proofs.restarted.cuts.Given as goal

abbrev pub invariant-loop-name : goal.invariant-loop-name
invariant-loop-name l = record {
  cut : map edit_data l.change.items ≡ map cut_name (map name_data (take l.name-index l.names));
  numbered : HaveTheirNumbers l.history l.change.items;
}
