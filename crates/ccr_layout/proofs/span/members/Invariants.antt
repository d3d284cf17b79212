use Rattle.std.proofs.Common.{ℕ, ◌<◌, ◌≤◌, length}
use Rattle.std.specs.Prelude.{Contains}
use Rattle.ccr_layout.specs.Spans.{IsIn, span_in}
use Rattle.ccr_layout.proofs.span.members.Given as goal

abbrev pub invariant-loop-node : goal.invariant-loop-node
invariant-loop-node l = record {
  all : (k : ℕ) → k < l.node → IsIn (span_in l.spans k) l.column → Contains l.members.items k;
  few : length l.members.items ≤ l.node;
}
