use Rattle.std.proofs.Common.{◌≡◌, take}
use Rattle.ccr_history.proofs.reported.copies_behind.Given as goal

abbrev pub invariant-loop-version : goal.invariant-loop-version
invariant-loop-version l = l.copies.items ≡ take l.version-index l.new
