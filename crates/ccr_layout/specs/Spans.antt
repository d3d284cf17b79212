-- In which columns a node has a box or a slot, and how high it is there.
use Rattle.std.specs.Prelude.{◌≡◌, ℕ, ◌+◌, ◌<◌, ◌≤◌, List, length, nat_eq, if◌then◌else◌, ◌⊎◌, slice_index_or, All}
use Rattle.ccr_layout.specs.declared.graph.Node.{Node}
use Rattle.ccr_layout.specs.declared.graph.Edge.{Edge}
use Rattle.ccr_layout.specs.declared.span.Span.{Span}
use Rattle.ccr_layout.specs.Nodes.{height_of, first_port_of, job_count}
use Rattle.ccr_layout.specs.Passed.{LeadOn}

-- The lines of a node pass through this column: it lies between the column of its box and the last to which a line leads.
abbrev pub Passes : Span → ℕ → Type 0
Passes s c = (s.column < c) × (c < s.reach)

-- A node has its box or a slot in this column.
abbrev pub IsIn : Span → ℕ → Type 0
IsIn s c = (s.column ≡ c) ⊎ Passes s c

-- How high a node is in this column: a slot has no height.
abbrev pub height_in : Span → ℕ → ℕ
height_in s c = if nat_eq s.column c then s.height else 0

-- The span of a node, by its position.
abbrev pub span_in : List Span → ℕ → Span
span_in spans k = slice_index_or spans k (record { column = 0; reach = 0; height = 0; first_port = 0 })

-- A span is that of a node: as high as its box, with its first port.
pub record IsSpanOf (n : Node) (s : Span) : Type 0 where
  pub high : s.height ≡ height_of n.kind n.tabs.items
  pub port : s.first_port ≡ first_port_of n.kind n.tabs.items

-- A span for each node, which reaches the columns of its edges' targets, and no further than the last column. Edges lead on. There are at
-- most 403 columns, and at most three more than jobs; no box is higher than 710, and no first port lower than 40.
pub record AreSpans (nodes : List Node) (edges : List Edge) (spans : List Span) : Type 0 where
  pub long : length spans ≡ length nodes
  pub each : (k : ℕ) (d : Node) → k < length nodes → IsSpanOf (slice_index_or nodes k d) (span_in spans k)
  pub left : All (λ s. s.column ≤ 402) spans
  pub few : All (λ s. s.column ≤ job_count nodes + 2) spans
  pub low : All (λ s. s.height ≤ 710) spans
  pub ports : All (λ s. s.first_port ≤ 40) spans
  pub reached : (k : ℕ) (e : Edge) → k < length edges → (slice_index_or edges k e).source < length nodes
      → (slice_index_or edges k e).target < length nodes
      → (span_in spans (slice_index_or edges k e).target).column ≤ (span_in spans (slice_index_or edges k e).source).reach
  pub bound : (n : ℕ) → All (λ s. s.column < n) spans → (k : ℕ) → k < length spans → (span_in spans k).reach ≤ n
  pub lead : LeadOn nodes edges (λ k. (span_in spans k).column)
