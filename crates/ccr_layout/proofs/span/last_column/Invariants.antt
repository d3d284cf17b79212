use Rattle.std.proofs.Common.{ℕ, ◌<◌, ◌≤◌}
use Rattle.ccr_layout.specs.Spans.{span_in}
use Rattle.ccr_layout.proofs.span.last_column.Given as goal

abbrev pub invariant-loop-node : goal.invariant-loop-node
invariant-loop-node l = record { past : (k : ℕ) → k < l.node → (span_in l.spans k).column ≤ l.last; low : l.last ≤ 402 }
