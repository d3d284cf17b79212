-- How far the lines of nodes reach.
use Rattle.std.specs.Prelude.{◌≡◌, ℕ, ◌<◌, ◌≤◌, List, length, slice_index, slice_index_or, All}
use Rattle.ccr_layout.specs.declared.graph.Edge.{Edge}

-- Each node reaches the columns of the targets of so many edges, and no column beyond the last.
pub record AreReaches (columns : List ℕ) (edges : List Edge) (count : ℕ) (reaches : List ℕ) : Type 0 where
  pub long : length reaches ≡ length columns
  pub each : (k : ℕ) (e : Edge) → k < count → (slice_index_or edges k e).source < length columns
      → slice_index columns (slice_index_or edges k e).target ≤ slice_index reaches (slice_index_or edges k e).source
  pub bound : (n : ℕ) → All (λ c. c < n) columns → All (λ r. r ≤ n) reaches
