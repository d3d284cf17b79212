-- No text becomes markup.
use Rattle.std.specs.Prelude.{◌≡◌, ℕ, List, [], ◌∷◌, ◌++◌, length, filter, flat_map, Bool, true, ◌||◌, ◌==◌, nat_eq, if◌then◌else◌, codes, decimal}
use Rattle.std.specs.List.{starts_with}
use Rattle.ccr_page.specs.Texts.{Text, is_ascii}
use Rattle.ccr_page.specs.Statuses.{class_text, status_text, colour_text, urgency_text}
use Rattle.ccr_page.specs.Pieces.{PieceData, Markup, Shown, Cut, Isolated, Number, Link, Way, Class, Standing, Colour, Kind}

-- A byte of < > " '
abbrev pub is_markup : ℕ → Bool
is_markup b = b == 60 || b == 62 || b == 34 || b == 39

-- Those of a text, in their order.
abbrev pub markup_in : Text → Text
markup_in t = filter is_markup t

-- What the template has at a piece: itself, or nothing where a text or a number stands; around a name that isn't ASCII, an element.
abbrev pub template_text : PieceData → Text
template_text (Markup t) = t
template_text (Shown t) = []
template_text (Cut t most) = []
template_text (Isolated t most) = if is_ascii t then [] else codes "<bdi></bdi>"
template_text (Number n) = []
template_text (Link t) = []
template_text (Way t) = []
template_text (Class s) = []
template_text (Standing s) = []
template_text (Colour s) = []
template_text (Kind u) = []

-- THE TEMPLATE of these pieces, without its texts and numbers.
abbrev pub template : List PieceData → Text
template ps = flat_map template_text ps

-- A text goes on here with one of the five entities.
abbrev pub is_entity : Text → Bool
is_entity t =
    starts_with nat_eq t (codes "&amp;") || starts_with nat_eq t (codes "&lt;") || starts_with nat_eq t (codes "&gt;")
    || starts_with nat_eq t (codes "&quot;") || starts_with nat_eq t (codes "&#39;")

-- Each & of a text begins an entity.
abbrev pub AreEntities : Text → Type 0
AreEntities [] = Unit {0}
AreEntities (b ∷ bs) = (b ≡ 38 → is_entity (b ∷ bs) ≡ true) × AreEntities bs
