use Rattle.std.proofs.Common.{◌≡◌, ◌++◌, map, drop}
use Rattle.std.specs.List.{AllByRecursion}
use Rattle.ccr_store.specs.WriteData.{write_data}
use Rattle.ccr_store.specs.Writes.{change_writes, HasPlaces}
use Rattle.ccr_store.proofs.writes.writes_of.Given as goal

abbrev pub invariant-loop-edit : goal.invariant-loop-edit
invariant-loop-edit l = record {
  places : AllByRecursion HasPlaces (drop l.edit-index l.change);
  written : map write_data l.writes.items ++ change_writes (drop l.edit-index l.change) ≡ change_writes l.change;
}
