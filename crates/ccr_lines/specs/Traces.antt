-- Where a version went: the builds that took or moved it.
use Rattle.std.specs.Prelude.{ℕ, List, [], ◌∷◌, flat_map, Bool, false, ◌&&◌, ◌||◌, if◌then◌else◌, codes, decimal}
use Rattle.std.specs.List.{list_any}
use Rattle.std.specs.Option.{option_map_or}
use Rattle.std.specs.Str.{bytes_eq}
use Rattle.ccr_history.specs.Text.{Text}
use Rattle.ccr_history.specs.TextMap.{TextMap, meets}
use Rattle.ccr_history.specs.Tables.{TableData, at_place, versions_at}
use Rattle.ccr_history.specs.Builds.{BuildData, is_succeeded}
use Rattle.ccr_history.specs.History.{HistoryData}
use Rattle.ccr_lines.specs.declared.trace.Went.{Went}
use Rattle.ccr_lines.specs.Lines.{line, status_word}
use Rattle.ccr_lines.specs.Releases.{resource_at}

-- at a place of the scope of this number is a version of the resource that meets the pin; its source may be an older one
abbrev pub is_sought : List TableData → Text → TextMap → ℕ → ℕ → Bool
is_sought tables resource pin scope place =
    bytes_eq resource (resource_at tables scope)
    && option_map_or (λ v. meets v pin) (at_place place (versions_at scope tables)) false

-- the build took such a version
abbrev pub has_taken : List TableData → Text → TextMap → BuildData → Bool
has_taken tables resource pin b = list_any (λ u. is_sought tables resource pin u.scope u.place) b.used

-- the build moved such a version
abbrev pub has_moved : List TableData → Text → TextMap → BuildData → Bool
has_moved tables resource pin b = list_any (λ q. is_sought tables resource pin q.0 q.1) b.moved

-- ---- the builds
-- what became of such a version in a build
abbrev pub went : List TableData → Text → TextMap → BuildData → Went
went tables resource pin b = record {
  build = b;
  took = has_taken tables resource pin b;
  moved = has_moved tables resource pin b;
}

-- it, if it was taken or moved; nothing of any other
abbrev pub went_if : Went → List Went
went_if w = if w.took || w.moved then w ∷ [] else []

-- THE BUILDS that took or moved a version of the resource that meets the pin, in order of making
abbrev pub trace_of : HistoryData → Text → TextMap → List Went
trace_of h resource pin = flat_map (λ b. went_if (went h.tables resource pin b)) h.builds

-- ---- as lines
-- that it was taken
abbrev pub took_word : Bool → Text
took_word took = if took then codes " took" else []

-- that it was moved: it passed the job only where the build succeeded
abbrev pub moved_word : Bool → Bool → Text
moved_word moved succeeded = if moved then (if succeeded then codes " passed" else codes " moved") else []

-- a build with what became of it there
abbrev pub went_line : Went → Text
went_line w =
    line (w.build.job ∷ codes " " ∷ decimal w.build.number ∷ codes " " ∷ status_word w.build.status
    ∷ took_word w.took ∷ moved_word w.moved (is_succeeded w.build.status) ∷ [])

-- these lines, one behind the other
abbrev pub trace_lines : List Went → Text
trace_lines ws = flat_map went_line ws
