use Rattle.std.proofs.Common.{◌≡◌, ◌++◌, map, take}
use Rattle.ccr_store.specs.WriteData.{write_data}
use Rattle.ccr_store.specs.Writes.{used_write}
use Rattle.ccr_store.proofs.writes.write_used.Given as goal

abbrev pub invariant-loop-one : goal.invariant-loop-one
invariant-loop-one l = map write_data l.writes.items ≡ map write_data l.fn.writes.items ++ map (used_write l.id) (take l.one-index l.used)
