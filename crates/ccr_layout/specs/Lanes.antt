-- The lanes below the boxes.
use Rattle.std.specs.Prelude.{◌≡◌, ◌≢◌, ℕ, ◌+◌, ◌*◌, ◌<◌, ◌≤◌, ◌⊎◌, List, length, Bool, true, slice_index, slice_index_or}
use Rattle.ccr_layout.specs.declared.graph.Edge.{Edge}
use Rattle.ccr_layout.specs.declared.span.Span.{Span}
use Rattle.ccr_layout.specs.Spans.{span_in}
use Rattle.ccr_layout.specs.Passed.{edge_in}

-- An edge leads to no later column.
abbrev pub IsBackward : List Span → Edge → Type 0
IsBackward spans e = (span_in spans e.target).column ≤ (span_in spans e.source).column

-- Each node at which one of so many edges ends that lead back is marked.
pub record AreMarked (spans : List Span) (edges : List Edge) (count : ℕ) (marks : List Bool) : Type 0 where
  pub long : length marks ≡ length spans
  pub each : (k : ℕ) → k < count → IsBackward spans (edge_in edges k) → (edge_in edges k).target < length spans
      → slice_index_or marks (edge_in edges k).target true ≡ true

-- Two lanes are 14 apart at least.
abbrev pub AreLanesApart : ℕ → ℕ → Type 0
AreLanesApart l m = (l + 14 ≤ m) ⊎ (m + 14 ≤ l)

-- The lanes of the first nodes, from 16 below the bottom on: those of marked nodes lie apart, and above the next lane and the end.
pub record AreLanes (marks : List Bool) (bottom : ℕ) (lanes : List ℕ) (count next end : ℕ) : Type 0 where
  pub long : length lanes ≡ count
  pub from : bottom + 16 ≤ next
  pub low : next ≤ bottom + 16 + 14 * count
  pub above : bottom ≤ end
  pub within : end ≤ bottom + 16 + 14 * count
  pub below : (k : ℕ) → k < count → bottom + 16 ≤ slice_index lanes k
  pub ends : (k : ℕ) → k < count → slice_index_or marks k true ≡ true
      → (slice_index lanes k + 14 ≤ next) × (slice_index lanes k + 14 ≤ end)
  pub apart : (j k : ℕ) → j < count → k < count → slice_index_or marks j true ≡ true → slice_index_or marks k true ≡ true → j ≢ k
      → AreLanesApart (slice_index lanes j) (slice_index lanes k)
