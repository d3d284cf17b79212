use Rattle.std.proofs.Common.{◌≡◌, ◌+◌, ◌≤◌, drop, map, bytes_eq}
use Rattle.std.specs.Prelude.{count_by}
use Rattle.ccr_core.specs.Holding.{name_data}
use Rattle.ccr_core.proofs.busy.count_of.Given as goal

abbrev pub invariant-loop-name : goal.invariant-loop-name
invariant-loop-name l = record {
  few : l.count ≤ l.name-index;
  left : l.count + count_by (λ n. bytes_eq l.job n.0) (map name_data (drop l.name-index l.names)) ≡ count_by (λ n. bytes_eq l.job n.0) (map name_data l.names);
}
