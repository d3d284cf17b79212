-- Columns beside each other.
use Rattle.std.specs.Prelude.{◌≡◌, ℕ, ◌+◌, ◌-◌, ◌<◌, ◌≤◌, List, length, min, Some, slice_index_or}
use Rattle.ccr_layout.specs.declared.graph.Node.{Node}
use Rattle.ccr_layout.specs.declared.span.Span.{Span}
use Rattle.ccr_layout.specs.declared.band.Band.{Band}
use Rattle.ccr_layout.specs.Ends.{tab_in}
use Rattle.ccr_layout.specs.Spans.{span_in}

-- The band of a column.
abbrev pub band_in : List Band → ℕ → Band
band_in bands c = slice_index_or bands c (record { left = 0; inner = 0; right = 0 })

-- So many columns, of which each begins at least 46 right of the one before, and none ends beyond 900,000.
pub record AreBands (columns : ℕ) (bands : List Band) : Type 0 where
  pub long : length bands ≡ columns
  pub beside : (c : ℕ) → c + 1 < columns → (band_in bands c).right + 46 ≤ (band_in bands (c + 1)).left
  pub tabs : (c : ℕ) → c < columns → (band_in bands c).left ≤ (band_in bands c).inner
  pub boxes : (c : ℕ) → c < columns → (band_in bands c).inner ≤ (band_in bands c).right
  pub low : (c : ℕ) → c < columns → (band_in bands c).right ≤ 900000

-- Of so many nodes, the widest tab and the widest box of a column have room in so much.
pub record HasRoom (nodes : List Node) (spans : List Span) (count column tabs boxes : ℕ) : Type 0 where
  pub tab : (k p w : ℕ) → k < count → (span_in spans k).column ≡ column → tab_in nodes k p ≡ Some w → min w 1000 ≤ tabs
  pub box : (k : ℕ) (d : Node) → k < count → (span_in spans k).column ≡ column → min (slice_index_or nodes k d).width 1000 ≤ boxes

-- So do those of each of so many columns.
abbrev pub AreRoomy : List Node → List Span → List Band → ℕ → Type 0
AreRoomy nodes spans bands columns = (c : ℕ) → c < columns → HasRoom nodes spans (length nodes) c
    ((band_in bands c).inner - (band_in bands c).left) ((band_in bands c).right - (band_in bands c).inner)
