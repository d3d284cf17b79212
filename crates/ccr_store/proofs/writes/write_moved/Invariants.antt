use Rattle.std.proofs.Common.{◌≡◌, ◌++◌, map, take}
use Rattle.ccr_store.specs.WriteData.{write_data}
use Rattle.ccr_store.specs.Writes.{moved_write}
use Rattle.ccr_store.proofs.writes.write_moved.Given as goal

abbrev pub invariant-loop-scope : goal.invariant-loop-scope
invariant-loop-scope l = map write_data l.writes.items ≡ map write_data l.fn.writes.items ++ map (moved_write l.id) (take l.scope-index l.moved)
