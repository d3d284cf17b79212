use Rattle.std.proofs.Common.{◌≡◌, drop}
use Rattle.ccr_index.proofs.build.rows_of.Given as goal

abbrev pub invariant-loop-k : goal.invariant-loop-k
invariant-loop-k l = (l.rows.builds ≡ drop l.k l.builds) × (l.rows.scopes ≡ l.fn.scopes)
