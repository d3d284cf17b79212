-- Where the boxes and slots of a column stand.
use Rattle.std.specs.Prelude.{◌≡◌, ◌≢◌, ℕ, ◌+◌, ◌<◌, ◌≤◌, ◌⊎◌, List, length, map, slice_index, All, Contains}
use Rattle.ccr_layout.specs.declared.span.Span.{Span}
use Rattle.ccr_layout.specs.Spans.{IsIn, height_in, span_in}

-- The one ends at least 12 above the other.
abbrev pub AreApart : List ℕ → List ℕ → ℕ → ℕ → Type 0
AreApart heights tops a b =
    (slice_index tops a + slice_index heights a + 12 ≤ slice_index tops b)
    ⊎ (slice_index tops b + slice_index heights b + 12 ≤ slice_index tops a)

-- Each node has a top, none is lower than ten million and a column, and no two of these lie over one another.
pub record ArePlaced (order heights tops : List ℕ) : Type 0 where
  pub long : length tops ≡ length heights
  pub low : All (λ t. t ≤ 10300000) tops
  pub apart : (a b : ℕ) → a < length tops → b < length tops → Contains order a → Contains order b → a ≢ b
      → AreApart heights tops a b

-- The tops of a column: no two nodes that have a box or a slot there lie over one another.
pub record IsColumn (spans : List Span) (column : ℕ) (tops : List ℕ) : Type 0 where
  pub long : length tops ≡ length spans
  pub low : All (λ t. t ≤ 10300000) tops
  pub apart : (a b : ℕ) → a < length spans → b < length spans → IsIn (span_in spans a) column
      → IsIn (span_in spans b) column → a ≢ b → AreApart (map (λ s. height_in s column) spans) tops a b
