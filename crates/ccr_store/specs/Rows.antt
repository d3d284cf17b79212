-- The rows of a history in the six tables.
use Rattle.std.specs.Prelude.{◌≡◌, pos, ℕ, ◌+◌, [], ◌∷◌, ◌++◌, List, map, Option, Some, None, IsPermutation, ⊤}
use Rattle.sqlite.specs.declared.types.Value.TheVariants.{Int, Text as Words, Blob}
use Rattle.sqlite.specs.Order.{Row}
use Rattle.ccr_tables.specs.Contents.{Contents}
use Rattle.ccr_tables.specs.Written.{with_meta}
use Rattle.ccr_history.specs.declared.build.Status.{Status}
use Rattle.ccr_history.specs.declared.build.Status.TheVariants.{Running, Succeeded, Failed, Errored, Aborted}
use Rattle.ccr_history.specs.Text.{Text}
use Rattle.ccr_history.specs.TextMap.{TextMap, key_text}
use Rattle.ccr_history.specs.Scopes.{ScopeData}
use Rattle.ccr_history.specs.Tables.{TableData}
use Rattle.ccr_history.specs.Builds.{UsedData, BuildData}
use Rattle.ccr_history.specs.History.{HistoryData}
use Rattle.ccr_store.specs.declared.format.Format.{Format}
use Rattle.ccr_store.specs.declared.format.Format.TheVariants.{One, Two}

-- ---- meta: k, v
-- the number of a format, as a text
abbrev pub format_text : Format → List ℕ
format_text One = 49 ∷ []
format_text Two = 50 ∷ []

-- row 1 has the number of the format
abbrev pub format_row : Format → Row
format_row f = Int (pos 1) ∷ Blob (format_text f) ∷ []

-- row 2 has the text of the pipeline, byte by byte
abbrev pub text_row : Text → Row
text_row t = Int (pos 2) ∷ Blob t ∷ []

-- one of the rows is that of the format
abbrev pub HasFormat : Format → Contents → Type 0
HasFormat f these = (more : List Row) × IsPermutation these.meta (format_row f ∷ more)

-- the second row is there once a text was set
abbrev pub meta_rows : Format → Option Text → List Row
meta_rows f None = format_row f ∷ []
meta_rows f (Some t) = format_row f ∷ text_row t ∷ []

-- ---- scopes: id, resource, kind, source
abbrev pub scope_row : ℕ → ScopeData → Row
scope_row id s = Int (pos id) ∷ Words s.resource ∷ Words s.kind ∷ Words s.source ∷ []

-- the scopes have ids from this one up, in order of making
abbrev pub scope_rows : ℕ → List TableData → List Row
scope_rows id [] = []
scope_rows id (t ∷ ts) = scope_row id t.scope ∷ scope_rows (id + 1) ts

-- ---- versions: scope, place, body
-- the body is the version's key
abbrev pub version_row : ℕ → ℕ → TextMap → Row
version_row scope place v = Int (pos scope) ∷ Int (pos place) ∷ Words (key_text v) ∷ []

-- a scope's versions have places from this one up
abbrev pub version_rows : ℕ → ℕ → List TextMap → List Row
version_rows scope place [] = []
version_rows scope place (v ∷ vs) = version_row scope place v ∷ version_rows scope (place + 1) vs

-- the versions of scopes with ids from this one up; places count from 1 in each
abbrev pub table_rows : ℕ → List TableData → List Row
table_rows id [] = []
table_rows id (t ∷ ts) = version_rows id 1 t.versions ++ table_rows (id + 1) ts

-- ---- builds: id, job, number, status
-- how a build stands, as a number
abbrev pub status_number : Status → ℕ
status_number Running = 0
status_number Succeeded = 1
status_number Failed = 2
status_number Errored = 3
status_number Aborted = 4

abbrev pub build_row : ℕ → BuildData → Row
build_row id b = Int (pos id) ∷ Words b.job ∷ Int (pos b.number) ∷ Int (pos (status_number b.status)) ∷ []

-- the builds have ids from this one up, in order of making
abbrev pub build_rows : ℕ → List BuildData → List Row
build_rows id [] = []
build_rows id (b ∷ bs) = build_row id b ∷ build_rows (id + 1) bs

-- ---- pairs: build, input, scope, place
-- a used place stands under its input
abbrev pub used_row : ℕ → UsedData → Row
used_row build u = Int (pos build) ∷ Words u.input ∷ Int (pos u.scope) ∷ Int (pos u.place) ∷ []

-- a moved pair stands under the empty input
abbrev pub moved_row : ℕ → ℕ × ℕ → Row
moved_row build p = Int (pos build) ∷ Words [] ∷ Int (pos p.0) ∷ Int (pos p.1) ∷ []

-- the pairs of builds with ids from this one up
abbrev pub pair_rows : ℕ → List BuildData → List Row
pair_rows id [] = []
pair_rows id (b ∷ bs) = (map (used_row id) b.used ++ map (moved_row id) b.moved) ++ pair_rows (id + 1) bs

-- a disabled place stands under build 0, which no build has, and the empty input
abbrev pub disabled_rows : List (ℕ × ℕ) → List Row
disabled_rows ps = map (moved_row 0) ps

-- ---- pins: resource, body
-- the body is the pin's compact text
abbrev pub pin_row : Text × TextMap → Row
pin_row p = Words p.0 ∷ Words (key_text p.1) ∷ []

-- ---- all six
-- the rows of a history in a format; ids of scopes and builds count from 1
abbrev pub rows_in : Format → HistoryData → Contents
rows_in f h = record {
  meta = meta_rows f h.text;
  scopes = scope_rows 1 h.tables;
  versions = table_rows 1 h.tables;
  builds = build_rows 1 h.builds;
  pairs = disabled_rows h.disabled ++ pair_rows 1 h.builds;
  pins = map pin_row h.pins;
}

-- THE ROWS OF A HISTORY, in the format that is written
abbrev pub rows_of : HistoryData → Contents
rows_of = rows_in Two

-- contents of the first format, in the second: row 1 of `meta` has its number
abbrev pub raised : Contents → Contents
raised these = with_meta 1 (format_text Two) these

-- contents of a format, in the second
abbrev pub in_second : Format → Contents → Contents
in_second One these = raised these
in_second Two these = these

-- a format has room for the history: the first has none for disabled places
abbrev pub Fits : Format → HistoryData → Type 0
Fits One h = h.disabled ≡ []
Fits Two h = ⊤
