-- The builds of a page, and what they took.
use Rattle.std.specs.Prelude.{ℕ, List, [], ◌∷◌, ◌++◌, length, flat_map, Bool, true, false, not, ◌==◌, if◌then◌else◌, Option, Some, None, String, codes, string_bytes}
use Rattle.std.specs.List.{list_any}
use Rattle.std.specs.declared.alloc.Global.{Global}
use Rattle.ccr_page.specs.Texts.{Text}
use Rattle.ccr_page.specs.Pieces.{PieceData, Markup, Shown, Cut, Isolated, Number, Class, Standing, Link, Way}
use Rattle.ccr_page.specs.Sentences.{sentence}
use Rattle.ccr_page.specs.Each.{each_from}
use Rattle.ccr_page.specs.declared.data.Cell.{Cell}
use Rattle.ccr_page.specs.declared.data.Row.{Row}
use Rattle.ccr_page.specs.declared.data.Job.{Job}
use Rattle.ccr_page.specs.declared.data.Page.{Page}
use Rattle.ccr_page.specs.declared.template.TheConstants.{BUILDS, NOTE}

-- ---- one build
-- What a build took for an input, if it took something.
abbrev pub cell_pieces : Option Cell → List PieceData
cell_pieces None = Markup (codes "<td>") ∷ []
cell_pieces (Some c) = Markup (codes "<td>") ∷ Number c.place ∷ Markup (codes " ") ∷ Cut (string_bytes c.short) 18 ∷ []

-- Through which builds that went together, and what was put.
abbrev pub rest_words : Row → List PieceData
rest_words r = (Markup (codes "<td>") ∷ []) ++ sentence r.rest.items

-- The same, if there is a column for it.
abbrev pub rest_pieces : Bool → Row → List PieceData
rest_pieces false r = []
rest_pieces true r = rest_words r

-- THE LINK to the log of a build of a job of this name: the directory of logs, the name, and the number.
abbrev pub log_link : Text → Text → ℕ → List PieceData
log_link dir name n = Way dir ∷ Markup (codes "/") ∷ Link name ∷ Markup (codes "/") ∷ Number n ∷ Markup (codes "/") ∷ []

-- The cell with that link.
abbrev pub log_cell : Text → Text → ℕ → List PieceData
log_cell dir name n = (Markup (codes "<td><a href=\"") ∷ []) ++ log_link dir name n ++ (Markup (codes "\">log</a>") ∷ [])

-- The same, if it's known where logs are.
abbrev pub log_pieces : Option (String Global) → Job → ℕ → List PieceData
log_pieces None j n = []
log_pieces (Some dir) j n = log_cell (string_bytes dir) (string_bytes j.name) n

-- The row of a build begins: its number, and how it stands.
abbrev pub row_open : ℕ → Row → List PieceData
row_open i r =
    Markup (codes "<tr id=b") ∷ Number i ∷ Markup (codes "-") ∷ Number r.number ∷ Markup (codes "><th class=") ∷ Class r.status
    ∷ Markup (codes ">") ∷ Number r.number ∷ Markup (codes " ") ∷ Standing r.status ∷ []

-- A BUILD of the job at a position.
abbrev pub row_pieces : Page → ℕ → Job → Bool → Row → List PieceData
row_pieces p i j has_rest r =
    row_open i r ++ flat_map cell_pieces r.cells.items ++ rest_pieces has_rest r ++ log_pieces p.logs j r.number

-- ---- one job
-- Some build of these went together with others, or put something.
abbrev pub has_rest : List Row → Bool
has_rest rows = list_any (λ r. not (length r.rest.items == 0)) rows

-- The name of an input, at the head of its column.
abbrev pub column_pieces : String Global → List PieceData
column_pieces t = Markup (codes "<th>") ∷ Isolated (string_bytes t) 30 ∷ []

-- The head of the column for that, if there is one.
abbrev pub rest_head : Bool → List PieceData
rest_head false = []
rest_head true = Markup (codes "<th>together, and put") ∷ []

-- The head of the column of logs, if there is one.
abbrev pub log_head : Option (String Global) → List PieceData
log_head None = []
log_head (Some dir) = Markup (codes "<th>log") ∷ []

-- The builds of a job, in a table.
abbrev pub table_pieces : Page → ℕ → Job → List PieceData
table_pieces p i j =
    (Markup (codes "<table><caption>") ∷ Shown (string_bytes j.name) ∷ Markup (codes "</caption><tr><th>build") ∷ [])
    ++ flat_map column_pieces j.columns.items ++ rest_head (has_rest j.rows.items) ++ log_head p.logs
    ++ flat_map (row_pieces p i j (has_rest j.rows.items)) j.rows.items ++ (Markup (codes "</table>\n") ∷ [])

-- THE BUILDS OF A JOB, if any has a row.
abbrev pub builds_pieces : Page → ℕ → Job → List PieceData
builds_pieces p i j = if length j.rows.items == 0 then [] else table_pieces p i j

-- ---- all
-- Some build has a row.
abbrev pub has_rows : List Job → Bool
has_rows jobs = list_any (λ j. not (length j.rows.items == 0)) jobs

-- The tables of builds.
abbrev pub builds_tables : Page → List PieceData
builds_tables p =
    (Markup BUILDS.now ∷ Number p.row_count ∷ Markup NOTE.now ∷ []) ++ each_from (builds_pieces p) 0 p.jobs.items
    ++ (Markup (codes "</section>\n") ∷ [])

-- THE BUILDS, if any has a row.
abbrev pub builds_section : Page → List PieceData
builds_section p = if has_rows p.jobs.items then builds_tables p else []
