-- The resources of a page.
use Rattle.std.specs.Prelude.{ℕ, List, [], ◌∷◌, ◌++◌, length, ◌==◌, if◌then◌else◌, Bool, true, false, Option, Some, None, is_some, codes, string_bytes}
use Rattle.ccr_page.specs.Pieces.{PieceData, Markup, Shown, Cut, Number}
use Rattle.ccr_page.specs.Sentences.{sentence}
use Rattle.ccr_page.specs.Each.{each_from}
use Rattle.ccr_page.specs.declared.data.Version.{Version}
use Rattle.ccr_page.specs.declared.data.Resource.{Resource}
use Rattle.ccr_page.specs.declared.template.TheConstants.{RESOURCES}

-- Its newest version, if there is one.
abbrev pub newest_pieces : Option Version → List PieceData
newest_pieces None = Markup (codes "none yet") ∷ []
newest_pieces (Some v) = Markup (codes "<code>") ∷ Cut (string_bytes v.key) 72 ∷ Markup (codes "</code>") ∷ []

-- The cell of what holds it begins: a pin colours it.
abbrev pub held_open : Bool → List PieceData
held_open true = Markup (codes "<td class=pin>") ∷ []
held_open false = Markup (codes "<td>") ∷ []

-- Its row begins: its name and its type.
abbrev pub resource_row : ℕ → Resource → List PieceData
resource_row i r =
    Markup (codes "<tr id=\"r") ∷ Number i ∷ Markup (codes "\"><th scope=\"row\">") ∷ Shown (string_bytes r.name)
    ∷ Markup (codes " <i>") ∷ Shown (string_bytes r.kind) ∷ Markup (codes "</i></th><td>") ∷ []

-- Its newest version, and how many there are.
abbrev pub version_cells : Resource → List PieceData
version_cells r =
    newest_pieces r.newest ++ (Markup (codes "</td><td>") ∷ Number r.version_count ∷ Markup (codes "</td>") ∷ [])

-- What holds it.
abbrev pub held_cell : Resource → List PieceData
held_cell r = held_open (is_some r.pin) ++ sentence r.held.items ++ (Markup (codes "</td></tr>\n") ∷ [])

-- A RESOURCE: its name and type, its newest version, how many there are, and what holds it.
abbrev pub resource_pieces : ℕ → Resource → List PieceData
resource_pieces i r = resource_row i r ++ version_cells r ++ held_cell r

-- The table of resources.
abbrev pub resources_table : List Resource → List PieceData
resources_table resources =
    (Markup RESOURCES.now ∷ []) ++ each_from resource_pieces 0 resources
    ++ (Markup (codes "</tbody></table></div></section>\n") ∷ [])

-- THE RESOURCES, if there are any.
abbrev pub resources_section : List Resource → List PieceData
resources_section resources = if length resources == 0 then [] else resources_table resources
