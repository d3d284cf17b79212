-- THE PAGE.
use Rattle.std.specs.Prelude.{◌≡◌, List, [], ◌∷◌, ◌++◌, map, if◌then◌else◌}
use Rattle.ccr_layout.specs.declared.graph.Node.{Node}
use Rattle.ccr_layout.specs.declared.picture.Picture.{Picture}
use Rattle.ccr_layout.specs.Pictures.{IsPicture}
use Rattle.ccr_page.specs.Texts.{Text}
use Rattle.ccr_page.specs.Pieces.{PieceData, Markup, written}
use Rattle.ccr_page.specs.Heads.{has_picture, head_pieces, header_pieces}
use Rattle.ccr_page.specs.Lists.{positions, still_positions, still_section, going_section}
use Rattle.ccr_page.specs.Jobs.{jobs_section}
use Rattle.ccr_page.specs.Resources.{resources_section}
use Rattle.ccr_page.specs.Builds.{builds_section}
use Rattle.ccr_page.specs.Shapes.{node_data, nodes_of, edges_of}
use Rattle.ccr_page.specs.Drawings.{picture_section}
use Rattle.ccr_page.specs.declared.data.Urgency.TheVariants.{Going}
use Rattle.ccr_page.specs.declared.data.Page.{Page}
use Rattle.ccr_page.specs.declared.template.TheConstants.{UNSET, EMPTY, END}

-- The picture, what stands still, what goes on, the jobs, the resources and the builds.
abbrev pub sections : Page → Picture → List PieceData
sections p pic =
    picture_section p pic
    ++ (still_section p.jobs.items (still_positions p.jobs.items) ++ going_section p.jobs.items (positions Going 0 p.jobs.items))
    ++ jobs_section p.jobs.items ++ resources_section p.resources.items ++ builds_section p

-- What a page has below its header: the sections, or why there are none.
abbrev pub main_pieces : Page → Picture → List PieceData
main_pieces p pic =
    if has_picture p then sections p pic else (if p.has_pipeline then Markup EMPTY.now ∷ [] else Markup UNSET.now ∷ [])

-- THE PAGE, piece by piece.
abbrev pub page_pieces : Page → Picture → List PieceData
page_pieces p pic = head_pieces p ++ header_pieces p ++ main_pieces p pic ++ (Markup END.now ∷ [])

-- THE PAGE of this value with this picture.
abbrev pub page_of : Page → Picture → Text
page_of p pic = written (page_pieces p pic)

-- These bytes are the page of this value, with a picture of its graph.
abbrev pub IsPage : Page → Text → Type 0
IsPage p bytes =
    (nodes : List Node) × (pic : Picture) × (map node_data nodes ≡ nodes_of p)
    × IsPicture nodes (edges_of p) pic × (bytes ≡ page_of p pic)
