use Rattle.std.proofs.Common.{◌≡◌, ℕ, List, take, map}
use Rattle.ccr_history.specs.Builds.{UsedData}
use Rattle.ccr_store.specs.Rows.{used_row}
use Rattle.ccr_store.proofs.reading.read_used.Given as goal

abbrev pub invariant-loop-pair : goal.invariant-loop-pair
invariant-loop-pair l = (id : ℕ) (us : List UsedData) → l.pairs ≡ map (used_row id) us → l.used.items ≡ take l.pair-index us
