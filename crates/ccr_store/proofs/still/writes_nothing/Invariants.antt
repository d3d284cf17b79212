use Rattle.std.proofs.Common.{◌≡◌, drop}
use Rattle.ccr_store.specs.Writes.{change_writes}
use Rattle.ccr_store.proofs.still.writes_nothing.Given as goal

abbrev pub invariant-loop-edit : goal.invariant-loop-edit
invariant-loop-edit l = change_writes (drop l.edit-index l.change) ≡ change_writes l.change
