-- Builds, and versions, one after another.
use Rattle.std.specs.Prelude.{ℕ, ◌+◌, ◌-◌, List, [], ◌∷◌, length, drop, map, flat_map, Bool, true, not, if◌then◌else◌, Option, Some, None, codes, decimal}
use Rattle.serde_json.specs.Data.{Data, boolean, number, unsigned, string, object, no_members, member}
use Rattle.ccr_history.specs.Text.{Text}
use Rattle.ccr_history.specs.TextMap.{TextMap, key_text}
use Rattle.ccr_history.specs.Builds.{BuildData, is_of}
use Rattle.ccr_history.specs.Pairs.{has_pair}
use Rattle.ccr_history.specs.Scopes.{ScopeData}
use Rattle.ccr_history.specs.Tables.{versions_of, scope_number}
use Rattle.ccr_history.specs.History.{HistoryData}
use Rattle.ccr_core.specs.declared.form.Form.{Form}
use Rattle.ccr_core.specs.declared.form.Form.TheVariants as form
use Rattle.ccr_lines.specs.declared.versions.Listed.{Listed}
use Rattle.ccr_lines.specs.Json.{list, fields_json, json_line}
use Rattle.ccr_lines.specs.JobsJson.{build_json}
use Rattle.ccr_lines.specs.Lines.{line, build_line, status_word}

-- ---- builds
-- a build of the job, where one is named; else any
abbrev pub is_asked : Option Text → BuildData → Bool
is_asked None b = true
is_asked (Some job) b = is_of job b

-- the build, if it is one; nothing otherwise
abbrev pub asked_if : Option Text → BuildData → List BuildData
asked_if job b = if is_asked job b then b ∷ [] else []

-- the last of these builds, so many, or all of them if they are fewer; all where no number is given
abbrev pub newest : Option ℕ → List BuildData → List BuildData
newest None bs = bs
newest (Some n) bs = drop (length bs - n) bs

-- THE BUILDS of a job, or of all; of them the newest, so many; in order of making
abbrev pub builds_of : Option Text → Option ℕ → HistoryData → List BuildData
builds_of job count h = newest count (flat_map (λ b. asked_if job b) h.builds)

-- how each of these builds stands
abbrev pub builds_lines : List BuildData → Text
builds_lines bs = flat_map (λ b. build_line b.job b.number (status_word b.status)) bs

-- the same as a list
abbrev pub builds_json : List BuildData → Data
builds_json bs = list (map (λ b. build_json b) bs)

-- the same in one of the forms
abbrev pub builds_shown : Form → List BuildData → Text
builds_shown form.Lines bs = builds_lines bs
builds_shown form.Json bs = json_line (builds_json bs)

-- ---- versions
-- a version with its place, and whether it is disabled
pub record ListedData : Type 0 where
  pub place : ℕ
  pub version : TextMap
  pub is_disabled : Bool

-- what a value of the program's type stands for
abbrev pub listed_data : Listed → ListedData
listed_data l = record { place = l.place; version = l.version.now; is_disabled = l.is_disabled }

-- these versions, whose places count from the one given, and whether the test says of each that it is disabled
abbrev pub listed_from : (ℕ → Bool) → ℕ → List TextMap → List ListedData
listed_from is_disabled place [] = []
listed_from is_disabled place (v ∷ vs) =
    record { place = place; version = v; is_disabled = is_disabled place } ∷ listed_from is_disabled (place + 1) vs

-- THE VERSIONS of a scope, each with its place
abbrev pub versions_listed : ScopeData → HistoryData → List ListedData
versions_listed s h =
    listed_from (λ place. has_pair (scope_number s h.tables, place) h.disabled) 1 (versions_of s h.tables)

-- the word behind the key of a version, where it is disabled
abbrev pub disabled_word : Bool → Text
disabled_word is_disabled = if is_disabled then codes " disabled" else []

-- the key of a version after its place, and a word where it is disabled
abbrev pub version_line : ListedData → Text
version_line l = line (decimal l.place ∷ codes " " ∷ key_text l.version ∷ disabled_word l.is_disabled ∷ [])

-- the lines of these versions
abbrev pub versions_lines : List ListedData → Text
versions_lines ls = flat_map (λ l. version_line l) ls

-- a version with its place: it is enabled, or disabled
abbrev pub listed_json : ListedData → Data
listed_json l =
    object (member (codes "enabled") (boolean (not l.is_disabled))
    (member (codes "place") (number (unsigned l.place))
    (member (codes "version") (fields_json (Some l.version)) no_members)))

-- these versions, as a list
abbrev pub versions_json : List ListedData → Data
versions_json ls = list (map (λ l. listed_json l) ls)

-- the same in one of the forms
abbrev pub versions_shown : Form → List ListedData → Text
versions_shown form.Lines ls = versions_lines ls
versions_shown form.Json ls = json_line (versions_json ls)
