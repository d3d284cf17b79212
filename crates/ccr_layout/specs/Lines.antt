-- Lines from one column to the next.
use Rattle.std.specs.Prelude.{ℕ, List, [], length, map, Bool, not, ◌==◌, slice_index_or}
use Rattle.std.specs.List.{sum_by}
use Rattle.std.specs.declared.vec.Vec.{Vec}
use Rattle.ccr_layout.specs.declared.line.Line.{Line}

-- A line ends at a box, and not in a slot of its own node.
abbrev pub ends_at_box : Line → Bool
ends_at_box l = not (l.from == l.to)

-- The lines that end in a column, none where there is no such column.
abbrev pub lines_in : {A : Type 0} → List (Vec Line A) → ℕ → List Line
lines_in lines c = slice_index_or (map (λ v. v.items) lines) c []

-- How many lines end in all columns.
abbrev pub line_count : {A : Type 0} → List (Vec Line A) → ℕ
line_count lines = sum_by (λ v. length v.items) lines
