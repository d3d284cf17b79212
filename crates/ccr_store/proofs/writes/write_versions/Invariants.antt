use Rattle.std.proofs.Common.{◌≡◌, ◌+◌, ◌++◌, map, take}
use Rattle.ccr_store.specs.WriteData.{write_data}
use Rattle.ccr_store.specs.Writes.{version_writes}
use Rattle.ccr_store.proofs.writes.write_versions.Given as goal

abbrev pub invariant-loop-version : goal.invariant-loop-version
invariant-loop-version l = record {
  place : l.place ≡ l.first + l.version-index;
  written : map write_data l.writes.items ≡ map write_data l.fn.writes.items ++ version_writes l.scope l.first (take l.version-index l.versions);
}
