use Rattle.std.proofs.Common.{◌≡◌, map, drop}
use Rattle.ccr_history.specs.Changes.{changed, AdmitsAll}
use Rattle.ccr_core.specs.Holding.{name_data}
use Rattle.ccr_core.specs.Resumed.{cut_name}
use Rattle.ccr_core.proofs.restarted.cut_all.Given as goal

abbrev pub invariant-loop-name : goal.invariant-loop-name
invariant-loop-name l = record {
  taken : AdmitsAll l.history (map cut_name (map name_data (drop l.name-index l.names)));
  on : changed (map cut_name (map name_data (drop l.name-index l.names))) l.history ≡ changed (map cut_name (map name_data l.names)) l.initial.history;
}
