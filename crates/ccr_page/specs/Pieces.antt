-- Pages as pieces: the markup of the template, and what stands in its holes.
use Rattle.std.specs.Prelude.{◌≡◌, ℕ, List, [], ◌∷◌, ◌++◌, flat_map, if◌then◌else◌, codes, decimal, string_bytes}
use Rattle.ccr_page.specs.Texts.{Text, escaped, link, way, cut, is_ascii}
use Rattle.ccr_page.specs.Statuses.{class_text, status_text, colour_text, urgency_text}
use Rattle.ccr_page.specs.declared.status.Status.{Status}
use Rattle.ccr_page.specs.declared.data.Urgency.{Urgency}
use Rattle.ccr_page.specs.declared.piece.Piece.{Piece}
use Rattle.ccr_page.specs.declared.piece.Piece.TheVariants as piece

-- Markup as it stands in the template; or in a hole a text, a text in so many units, the same of a name, a number, a piece of a
-- link, a link's directory, and what there is for a status or an urgency: its class, its word and its colour.
pub data PieceData : Type 0 where
  Markup : Text → PieceData
  Shown : Text → PieceData
  Cut : Text → ℕ → PieceData
  Isolated : Text → ℕ → PieceData
  Number : ℕ → PieceData
  Link : Text → PieceData
  Way : Text → PieceData
  Class : Status → PieceData
  Standing : Status → PieceData
  Colour : Status → PieceData
  Kind : Urgency → PieceData

-- A text whose letters may go from right to left: where it isn't ASCII alone, in an element of its own.
abbrev pub isolated : Text → Text → Text
isolated name text = if is_ascii name then text else (codes "<bdi>" ++ text ++ codes "</bdi>")

-- The bytes of a piece.
abbrev pub piece_text : PieceData → Text
piece_text (Markup t) = t
piece_text (Shown t) = escaped t
piece_text (Cut t most) = escaped (cut most t)
piece_text (Isolated t most) = isolated t (escaped (cut most t))
piece_text (Number n) = decimal n
piece_text (Link t) = link t
piece_text (Way t) = way t
piece_text (Class s) = class_text s
piece_text (Standing s) = status_text s
piece_text (Colour s) = colour_text s
piece_text (Kind u) = urgency_text u

-- THE BYTES of pieces, one after another.
abbrev pub written : List PieceData → Text
written ps = flat_map piece_text ps

-- The piece that a value of the program's type stands for.
abbrev pub piece_data : Piece → PieceData
piece_data (piece.Markup t) = Markup t.now
piece_data (piece.Shown t) = Shown (string_bytes t.now)
piece_data (piece.Cut t most) = Cut (string_bytes t.now) most
piece_data (piece.Isolated t most) = Isolated (string_bytes t.now) most
piece_data (piece.Number n) = Number n
piece_data (piece.Link t) = Link (string_bytes t.now)
piece_data (piece.Way t) = Way (string_bytes t.now)
piece_data (piece.Class s) = Class s
piece_data (piece.Standing s) = Standing s
piece_data (piece.Colour s) = Colour s
piece_data (piece.Kind u) = Kind u

-- What was written, and after it these pieces.
pub record Adds (before after : Text) (ps : List PieceData) : Type 0 where
  pub same : after ≡ before ++ written ps
