-- Where nodes wish to be.
use Rattle.std.specs.Prelude.{ℕ, ◌+◌, ◌-◌, ◌*◌, ◌/◌, ◌^◌, List, min, Bool, true, false, ◌&&◌, ◌||◌, not, ◌==◌, if◌then◌else◌, Option, None, option_map, is_some, slice_index, slice_index_or}
use Rattle.std.specs.List.{list_any}
use Rattle.std.specs.Option.{option_or}
use Rattle.ccr_layout.specs.declared.line.Line.{Line}
use Rattle.ccr_layout.specs.declared.mean.Mean.{Mean}
use Rattle.ccr_layout.specs.Lines.{ends_at_box}
use Rattle.ccr_layout.specs.Means.{nothing, mean_of, mean_got, added}

-- The wish of a node, if it has one.
abbrev pub wish_in : List (Option ℕ) → ℕ → Option ℕ
wish_in wishes k = slice_index_or wishes k None

-- A wish, counted from the top of the picture, where it was counted from 1,024 above it.
abbrev pub inside : Option ℕ → Option ℕ
inside wish = option_map (λ height. height - 1024) wish

-- ---- by the lines from the left
-- A line counts: each does, or each that triggers.
abbrev pub counts_left : Bool → Line → Bool
counts_left all l = all || l.trigger

-- The top at which a line from the left is level, counted from 1,024 above the picture, by the middles of the column before.
abbrev pub left_mean : List ℕ → Line → Mean
left_mean middles l = mean_of (min (slice_index middles l.from + 1024) (2 ^ 32 - 1) - l.offset)

-- THE WISH BY THE LINES FROM THE LEFT: the mean of those that trigger, or of all if none does; none if no line ends there.
abbrev pub left_wish : List ℕ → List Line → ℕ → Option ℕ
left_wish middles lines k =
    option_or (mean_got (added (counts_left false) (λ l. l.to) (left_mean middles) k lines))
    (mean_got (added (counts_left true) (λ l. l.to) (left_mean middles) k lines))

-- ---- by the lines to the right
-- The height at which a line to the right ends, by the tops of the next column.
abbrev pub right_mean : List ℕ → Line → Mean
right_mean tops l = mean_of (min (slice_index tops l.to + l.offset) (2 ^ 32 - 1))

-- What lines to the right add for a node; nothing where lines come from the left.
abbrev pub right_added : List Line → List Line → List ℕ → ℕ → Mean
right_added arriving leaving tops k =
    if list_any (λ l. l.to == k) arriving then nothing else added (λ l. true) (λ l. l.from) (right_mean tops) k leaving

-- THE WISH BY THE LINES TO THE RIGHT: their mean, with the middle of the box there.
abbrev pub right_wish : List Line → List Line → List ℕ → List ℕ → ℕ → Option ℕ
right_wish arriving leaving tops heights k =
    option_map (λ level. level - slice_index heights k / 2) (mean_got (right_added arriving leaving tops k))

-- ---- by what leads to the same boxes
-- A line leads from a node that has a wish to a box.
abbrev pub is_heard : List (Option ℕ) → Line → Bool
is_heard wishes l = ends_at_box l && is_some (wish_in wishes l.from)

-- A line leads from a node without a wish to a box.
abbrev pub hears : List (Option ℕ) → Line → Bool
hears wishes l = ends_at_box l && not (is_some (wish_in wishes l.from))

-- The middle of the node from which a line leads.
abbrev pub middle_mean : List ℕ → Line → Mean
middle_mean middles l = mean_of (slice_index middles l.from)

-- The job to which a line leads, in steps of 64.
abbrev pub job_mean : Line → Mean
job_mean l = mean_of (64 * min l.to 400)
