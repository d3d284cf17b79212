-- The lines of the picture.
use Rattle.std.specs.Prelude.{ℕ, ◌+◌, ◌-◌, ◌/◌, List, [], ◌∷◌, ◌++◌, length, flat_map, Bool, true, false, ◌&&◌, ◌==◌, nat_lt, if◌then◌else◌, slice_index_or, codes}
use Rattle.std.specs.List.{list_any}
use Rattle.ccr_layout.specs.declared.picture.Point.{Point}
use Rattle.ccr_layout.specs.declared.picture.NodeBox.{NodeBox}
use Rattle.ccr_layout.specs.declared.picture.Slot.{Slot}
use Rattle.ccr_layout.specs.declared.picture.Path.{Path}
use Rattle.ccr_layout.specs.declared.picture.Path.TheVariants.{Forward, Back}
use Rattle.ccr_layout.specs.declared.picture.Picture.{Picture}
use Rattle.ccr_layout.specs.Pictures.{box_in}
use Rattle.ccr_page.specs.Texts.{Text}
use Rattle.ccr_page.specs.Pieces.{PieceData, Markup, Number}
use Rattle.ccr_page.specs.Each.{at_each}
use Rattle.ccr_page.specs.declared.data.Arrow.{Arrow}
use Rattle.ccr_page.specs.declared.stroke.Stroke.{Stroke}
use Rattle.ccr_page.specs.declared.stroke.Stroke.TheVariants.{Solid, Dashed, Red, RedDashed, BackSolid, BackDashed}

-- ---- which stroke
-- A stroke by its place.
abbrev pub stroke_rank : Stroke → ℕ
stroke_rank Dashed = 0
stroke_rank Solid = 1
stroke_rank BackDashed = 2
stroke_rank BackSolid = 3
stroke_rank RedDashed = 4
stroke_rank Red = 5

-- They are the same.
abbrev pub is_stroke : Stroke → Stroke → Bool
is_stroke a b = stroke_rank a == stroke_rank b

-- The stroke of a line forward: red where a version is held, dashed where none triggers.
abbrev pub forward_stroke : Bool → Bool → Stroke
forward_stroke held trigger = if held then (if trigger then Red else RedDashed) else (if trigger then Solid else Dashed)

-- The stroke of an edge.
abbrev pub path_stroke : Path → Arrow → Stroke
path_stroke (Forward from bend end) a = forward_stroke a.is_held a.trigger
path_stroke (Back from lane bend end) a = if a.trigger then BackSolid else BackDashed

-- An edge goes through a slot: it leads from the same node to a column beyond it.
abbrev pub goes_through : List NodeBox → Slot → Arrow → Bool
goes_through boxes s a = (a.source == s.node) && nat_lt s.column (box_in boxes a.target).column

-- An edge goes through a slot, and a version is held.
abbrev pub is_held_in : List NodeBox → Slot → Arrow → Bool
is_held_in boxes s a = goes_through boxes s a && a.is_held

-- An edge goes through a slot, and triggers.
abbrev pub triggers_in : List NodeBox → Slot → Arrow → Bool
triggers_in boxes s a = goes_through boxes s a && a.trigger

-- Some edge does the one.
abbrev pub some_held : List NodeBox → List Arrow → Slot → Bool
some_held boxes arrows s = list_any (λ a. is_held_in boxes s a) arrows

-- Some edge does the other.
abbrev pub some_triggers : List NodeBox → List Arrow → Slot → Bool
some_triggers boxes arrows s = list_any (λ a. triggers_in boxes s a) arrows

-- The stroke of a slot: that of the edges through it.
abbrev pub slot_stroke : List NodeBox → List Arrow → Slot → Stroke
slot_stroke boxes arrows s = forward_stroke (some_held boxes arrows s) (some_triggers boxes arrows s)

-- An arrow, by its position.
abbrev pub arrow_in : List Arrow → ℕ → Arrow
arrow_in arrows k = slice_index_or arrows k (record { source = 0; target = 0; port = 0; trigger = false; is_held = false })

-- A path, by its position.
abbrev pub path_in : List Path → ℕ → Path
path_in paths k = slice_index_or paths k (Forward (record { x = 0; y = 0 }) (record { x = 0; y = 0 }) 0)

-- ---- what is written for it
-- A curve that is level at both ends.
abbrev pub bow : Point → Point → List PieceData
bow a b =
    (Markup (codes "C") ∷ Number ((a.x + b.x) / 2) ∷ Markup (codes " ") ∷ Number a.y ∷ Markup (codes " ") ∷ Number ((a.x + b.x) / 2) ∷ [])
    ++ (Markup (codes " ") ∷ Number b.y ∷ Markup (codes " ") ∷ Number b.x ∷ Markup (codes " ") ∷ Number b.y ∷ [])

-- The same, or a level line.
abbrev pub curve : Point → Point → List PieceData
curve a b = if a.y == b.y then Markup (codes "H") ∷ Number b.x ∷ [] else bow a b

-- A level end, where there is one.
abbrev pub stub : ℕ → ℕ → List PieceData
stub bend end = if end == bend then [] else Markup (codes "H") ∷ Number end ∷ []

-- The way to a lane: out, and down.
abbrev pub way_down : Point → ℕ → List PieceData
way_down from lane =
    Markup (codes "C") ∷ Number (from.x + 28) ∷ Markup (codes " ") ∷ Number from.y ∷ Markup (codes " ") ∷ Number (from.x + 28)
    ∷ Markup (codes " ") ∷ Number lane ∷ []

-- The way along it, back over these columns.
abbrev pub way_along : Point → ℕ → Point → List PieceData
way_along from lane bend =
    Markup (codes " ") ∷ Number from.x ∷ Markup (codes " ") ∷ Number lane ∷ Markup (codes "H") ∷ Number bend.x ∷ []

-- The way up from it.
abbrev pub way_up : ℕ → Point → List PieceData
way_up lane bend =
    Markup (codes "C") ∷ Number (bend.x - 28) ∷ Markup (codes " ") ∷ Number lane ∷ Markup (codes " ") ∷ Number (bend.x - 28)
    ∷ Markup (codes " ") ∷ Number bend.y ∷ []

-- The way by a lane: out, down, along it, and up.
abbrev pub detour : Point → ℕ → Point → List PieceData
detour from lane bend =
    way_down from lane ++ way_along from lane bend ++ way_up lane bend
    ++ (Markup (codes " ") ∷ Number bend.x ∷ Markup (codes " ") ∷ Number bend.y ∷ [])

-- A path begins.
abbrev pub path_open : Point → List PieceData
path_open from = Markup (codes "<path d=\"M") ∷ Number from.x ∷ Markup (codes " ") ∷ Number from.y ∷ []

-- THE PATH OF AN EDGE.
abbrev pub path_pieces : Path → List PieceData
path_pieces (Forward from bend end) = path_open from ++ curve from bend ++ stub bend.x end ++ (Markup (codes "\"/>") ∷ [])
path_pieces (Back from lane bend end) = path_open from ++ detour from lane bend ++ stub bend.x end ++ (Markup (codes "\"/>") ∷ [])

-- THE PATH OF A SLOT.
abbrev pub slot_pieces : Slot → List PieceData
slot_pieces s =
    path_open s.from ++ curve s.from (record { x = s.left; y = s.top })
    ++ (Markup (codes "H") ∷ Number s.right ∷ Markup (codes "\"/>") ∷ [])

-- ---- groups
-- The path of an edge, if it has this stroke.
abbrev pub edge_if : Stroke → Arrow → Path → List PieceData
edge_if stroke a p = if is_stroke stroke (path_stroke p a) then path_pieces p else []

-- The same at a position.
abbrev pub edge_at : Stroke → List Arrow → List Path → ℕ → List PieceData
edge_at stroke arrows paths k = edge_if stroke (arrow_in arrows k) (path_in paths k)

-- The path of a slot, if it has this stroke.
abbrev pub slot_if : Stroke → List NodeBox → List Arrow → Slot → List PieceData
slot_if stroke boxes arrows s = if is_stroke stroke (slot_stroke boxes arrows s) then slot_pieces s else []

-- THE LINES OF ONE STROKE.
abbrev pub stroke_pieces : Stroke → Text → List Arrow → Picture → List PieceData
stroke_pieces stroke before arrows pic =
    (Markup before ∷ []) ++ at_each (edge_at stroke arrows pic.paths.items) (length pic.paths.items)
    ++ flat_map (slot_if stroke pic.boxes.items arrows) pic.slots.items ++ (Markup (codes "</g>") ∷ [])

-- The lines forward.
abbrev pub forward_lines : List Arrow → Picture → List PieceData
forward_lines arrows pic =
    stroke_pieces Dashed (codes "<g class=d>") arrows pic ++ stroke_pieces Solid (codes "<g class=l>") arrows pic

-- Those that go back.
abbrev pub back_lines : List Arrow → Picture → List PieceData
back_lines arrows pic =
    stroke_pieces BackDashed (codes "<g class=c>") arrows pic ++ stroke_pieces BackSolid (codes "<g class=b>") arrows pic

-- The red ones.
abbrev pub red_lines : List Arrow → Picture → List PieceData
red_lines arrows pic =
    stroke_pieces RedDashed (codes "<g class=k>") arrows pic ++ stroke_pieces Red (codes "<g class=h>") arrows pic

-- ALL LINES, the red ones above the others.
abbrev pub lines_pieces : List Arrow → Picture → List PieceData
lines_pieces arrows pic = forward_lines arrows pic ++ back_lines arrows pic ++ red_lines arrows pic
