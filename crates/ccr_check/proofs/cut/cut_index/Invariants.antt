use Rattle.std.proofs.Common.{ℕ, ◌<◌, ◌↔◌, IsTrue}
use Rattle.ccr_check.specs.Cut.{IsLineStart, IsMark}
use Rattle.ccr_check.proofs.cut.cut_index.Given as goal

abbrev pub invariant-loop-index : goal.invariant-loop-index
invariant-loop-index l = record { before : (k : ℕ) → k < l.index → IsMark l.bytes k → ⊥; start : IsTrue l.at_start ↔ IsLineStart l.bytes l.index }
