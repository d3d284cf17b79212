use Rattle.std.proofs.Common.{◌≡◌, ◌<◌, ◌≤◌, length, take}
use Rattle.ccr_index.specs.Alike.{counting, print_of}
use Rattle.ccr_index.proofs.alike.print_of.Given as goal

abbrev pub invariant-loop-scope : goal.invariant-loop-scope
invariant-loop-scope l =
    (l.number ≡ print_of 0 (counting l.scopes (take l.scope-index l.pairs)))
    × (l.size ≡ length (counting l.scopes (take l.scope-index l.pairs)))
    × (l.number < 4294967296)
    × (l.size ≤ l.scope-index)
