-- Where the nodes of each column stand.
use Rattle.std.specs.Prelude.{◌≡◌, ℕ, ◌<◌, ◌≤◌, List, [], length, map, slice_index_or, All}
use Rattle.std.specs.declared.vec.Vec.{Vec}
use Rattle.ccr_layout.specs.declared.span.Span.{Span}
use Rattle.ccr_layout.specs.Places.{IsColumn}

-- The tops of a column, none where there is no such column.
abbrev pub tops_in : {A : Type 0} → List (Vec ℕ A) → ℕ → List ℕ
tops_in tops c = slice_index_or (map (λ v. v.items) tops) c []

-- So many columns, of which each has its tops.
pub record AreColumns {A : Type 0} (spans : List Span) (columns : ℕ) (tops : List (Vec ℕ A)) : Type 0 where
  pub long : length tops ≡ columns
  pub each : (c : ℕ) → c < columns → IsColumn spans c (tops_in tops c)

-- No box is higher than 710, and no top is lower than ten million and a column.
pub record IsStanding {A : Type 0} (spans : List Span) (tops : List (Vec ℕ A)) : Type 0 where
  pub high : All (λ s. s.height ≤ 710) spans
  pub ports : All (λ s. s.first_port ≤ 40) spans
  pub low : (c : ℕ) → All (λ t. t ≤ 10300000) (tops_in tops c)
