-- The picture.
use Rattle.std.specs.Prelude.{ℕ, ◌+◌, ◌-◌, ◌*◌, ◌/◌, List, [], ◌∷◌, ◌++◌, length, drop, flat_map, slice_get, Bool, true, false, nat_lt, if◌then◌else◌, Option, Some, None, is_some, option_and_then, codes, string_bytes}
use Rattle.std.specs.Option.{option_map_or}
use Rattle.ccr_layout.specs.declared.picture.NodeBox.{NodeBox}
use Rattle.ccr_layout.specs.declared.picture.Tab.{Tab}
use Rattle.ccr_layout.specs.declared.picture.Picture.{Picture}
use Rattle.ccr_layout.specs.Pictures.{box_in}
use Rattle.ccr_page.specs.Texts.{Text, units}
use Rattle.ccr_page.specs.Pieces.{PieceData, Markup, Shown, Cut, Number, Class}
use Rattle.ccr_page.specs.Each.{each_from}
use Rattle.ccr_page.specs.Shapes.{below_resource, below_job}
use Rattle.ccr_page.specs.Strokes.{lines_pieces}
use Rattle.ccr_page.specs.declared.data.Port.{Port}
use Rattle.ccr_page.specs.declared.data.Job.{Job}
use Rattle.ccr_page.specs.declared.data.Resource.{Resource}
use Rattle.ccr_page.specs.declared.data.Page.{Page}
use Rattle.ccr_page.specs.declared.template.TheConstants.{LEGEND, ARROWHEAD, PICTURE, SECTION}

-- ---- tabs
-- The port of a job, if there are such a port and such a job.
abbrev pub port_in : List Job → ℕ → ℕ → Option Port
port_in jobs k p = option_and_then (λ j. slice_get j.ports.items p) (slice_get jobs k)

-- A tab, with the name of the port's resource.
abbrev pub tab_of : Tab → Port → List PieceData
tab_of t port =
    Markup (codes "<svg x=") ∷ Number t.left ∷ Markup (codes " y=") ∷ Number t.top ∷ Markup (codes " width=") ∷ Number t.width
    ∷ Markup (codes " height=18><rect/><text x=50% y=13>") ∷ Cut (string_bytes port.resource) 13 ∷ Markup (codes "</text></svg>") ∷ []

-- The same, if there is such a port; nodes before the jobs are resources.
abbrev pub tab_pieces : Page → Tab → List PieceData
tab_pieces p t =
    option_map_or (λ port. tab_of t port) (port_in p.jobs.items (t.node - length p.resources.items) t.port) []

-- ---- boxes
-- Where a box lies.
abbrev pub frame_pieces : NodeBox → List PieceData
frame_pieces b =
    Markup (codes " x=") ∷ Number b.left ∷ Markup (codes " y=") ∷ Number b.top ∷ Markup (codes " width=") ∷ Number b.width
    ∷ Markup (codes " height=") ∷ Number b.height ∷ Markup (codes ">") ∷ []

-- The whole name, where the box has it cut.
abbrev pub title_pieces : Text → List PieceData
title_pieces name =
    if nat_lt 20 (units name) then Markup (codes "<title>") ∷ Shown name ∷ Markup (codes "</title>") ∷ [] else []

-- The name, and where the line below it is.
abbrev pub label_pieces : NodeBox → Text → List PieceData
label_pieces b name =
    Markup (codes "<rect/><text x=50% y=") ∷ Number (b.height / 2 - 3) ∷ Markup (codes ">") ∷ Cut name 20
    ∷ Markup (codes "</text><text x=50% y=") ∷ Number (b.height / 2 + 13) ∷ Markup (codes ">") ∷ []

-- A box ends.
abbrev pub box_close : List PieceData
box_close = Markup (codes "</text></svg></a>") ∷ []

-- The box of a resource begins: a pin gives it another border.
abbrev pub resource_open : ℕ → Bool → List PieceData
resource_open i true = Markup (codes "<a href=#r") ∷ Number i ∷ Markup (codes "><svg class=q") ∷ []
resource_open i false = Markup (codes "<a href=#r") ∷ Number i ∷ Markup (codes "><svg class=o") ∷ []

-- The upper part of a resource's box: where it lies, and its whole name.
abbrev pub resource_frame : NodeBox → ℕ → Resource → List PieceData
resource_frame b i r = resource_open i (is_some r.pin) ++ frame_pieces b ++ title_pieces (string_bytes r.name)

-- The lower part: what is written in it.
abbrev pub resource_text : NodeBox → Resource → List PieceData
resource_text b r = label_pieces b (string_bytes r.name) ++ below_resource r.pin r.newest ++ box_close

-- THE BOX OF A RESOURCE.
abbrev pub resource_box : NodeBox → ℕ → Resource → List PieceData
resource_box b i r = resource_frame b i r ++ resource_text b r

-- The box of a job begins: its newest build colours it.
abbrev pub job_box_open : ℕ → Job → List PieceData
job_box_open i j = Markup (codes "<a href=#j") ∷ Number i ∷ Markup (codes "><svg class=") ∷ Class j.status ∷ []

-- The upper part of a job's box.
abbrev pub job_frame : NodeBox → ℕ → Job → List PieceData
job_frame b i j = job_box_open i j ++ frame_pieces b ++ title_pieces (string_bytes j.name)

-- The lower part.
abbrev pub job_text : NodeBox → Job → List PieceData
job_text b j = label_pieces b (string_bytes j.name) ++ below_job j.status j.number ++ box_close

-- THE BOX OF A JOB.
abbrev pub job_box : NodeBox → ℕ → Job → List PieceData
job_box b i j = job_frame b i j ++ job_text b j

-- The box of the resource at a position.
abbrev pub resource_at : List NodeBox → ℕ → Resource → List PieceData
resource_at boxes i r = resource_box (box_in boxes i) i r

-- The box of the job at a position.
abbrev pub job_at : List NodeBox → ℕ → Job → List PieceData
job_at boxes i j = job_box (box_in boxes i) i j

-- ---- the whole
-- How large the picture is.
abbrev pub size_pieces : Picture → List PieceData
size_pieces pic =
    Markup (codes "<svg viewBox=\"0 -12 ") ∷ Number pic.width ∷ Markup (codes " ") ∷ Number (pic.height + 24)
    ∷ Markup (codes "\" style=\"max-width:") ∷ Number pic.width ∷ Markup (codes "px;min-width:") ∷ Number (pic.width * 7 / 10) ∷ []

-- What it shows, in words: so many jobs.
abbrev pub job_count : List Job → List PieceData
job_count jobs = Markup PICTURE.now ∷ Number (length jobs) ∷ []

-- And so many resources.
abbrev pub resource_count : List Resource → List PieceData
resource_count resources = Markup (codes " jobs and ") ∷ Number (length resources) ∷ Markup ARROWHEAD.now ∷ []

-- How large the picture is, and what it shows, in words.
abbrev pub picture_head : Page → Picture → List PieceData
picture_head p pic = size_pieces pic ++ job_count p.jobs.items ++ resource_count p.resources.items

-- Its lines and its tabs.
abbrev pub picture_lines : Page → Picture → List PieceData
picture_lines p pic =
    lines_pieces p.arrows.items pic ++ (Markup (codes "<g class=i>") ∷ []) ++ flat_map (tab_pieces p) pic.tabs.items
    ++ (Markup (codes "</g></g>") ∷ [])

-- Its boxes.
abbrev pub picture_boxes : Page → Picture → List PieceData
picture_boxes p pic =
    each_from (resource_at pic.boxes.items) 0 p.resources.items
    ++ each_from (job_at (drop (length p.resources.items) pic.boxes.items)) 0 p.jobs.items ++ (Markup (codes "</svg>") ∷ [])

-- THE PICTURE.
abbrev pub picture_pieces : Page → Picture → List PieceData
picture_pieces p pic = picture_head p pic ++ picture_lines p pic ++ picture_boxes p pic

-- The picture, with what its colours and lines mean.
abbrev pub picture_section : Page → Picture → List PieceData
picture_section p pic =
    (Markup SECTION.now ∷ []) ++ picture_pieces p pic ++ (Markup (codes "</div>") ∷ Markup LEGEND.now ∷ Markup (codes "</section>\n") ∷ [])
