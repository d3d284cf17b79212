-- What a change of a history writes, with the numbers that the history gives.
use Rattle.std.specs.Prelude.{ℕ, ◌+◌, [], ◌∷◌, ◌++◌, List, map, length, Bool, if◌then◌else◌}
use Rattle.std.specs.List.{list_any}
use Rattle.ccr_history.specs.Text.{Text}
use Rattle.ccr_history.specs.TextMap.{TextMap, key_text}
use Rattle.ccr_history.specs.Scopes.{ScopeData, is_scope}
use Rattle.ccr_history.specs.Tables.{TableData, has_version, versions_of}
use Rattle.ccr_history.specs.Builds.{UsedData, BuildData, is_build_of, count_of}
use Rattle.ccr_history.specs.History.{HistoryData}
use Rattle.ccr_history.specs.Pairs.{has_pair}
use Rattle.ccr_history.specs.Changes.{EditData, text, versions, build, ended, pin_set, pin_cleared, disabled, enabled, edited}
use Rattle.ccr_store.specs.Rows.{status_number}
use Rattle.ccr_store.specs.WriteData.{WriteData}
use Rattle.ccr_store.specs.WriteData as write
use Rattle.ccr_store.specs.Writes.{version_writes, used_write, moved_write}

-- ---- a report
-- the scope has a table
abbrev pub has_scope : ScopeData → List TableData → Bool
has_scope scope tables = list_any (λ t. is_scope scope t.scope) tables

-- the id of a scope, where the ids of the tables begin with this one; the next id, where the scope is new
abbrev pub scope_id : ℕ → ScopeData → List TableData → ℕ
scope_id id scope [] = id
scope_id id scope (t ∷ ts) = if is_scope scope t.scope then id else scope_id (id + 1) scope ts

-- the versions of a report that aren't known, each once
abbrev pub new_versions : List TextMap → List TextMap → List TextMap
new_versions known [] = []
new_versions known (v ∷ vs) =
    if has_version known v then new_versions known vs else v ∷ new_versions (known ++ v ∷ []) vs

-- a scope, if it is new
abbrev pub scope_writes : ℕ → ScopeData → List TableData → List WriteData
scope_writes id scope tables =
    if has_scope scope tables then [] else write.scope id scope.resource scope.kind scope.source ∷ []

-- the scope of a report, if it is new, and its new versions at the next places
abbrev pub report_writes : ScopeData → List TextMap → List TableData → List WriteData
report_writes scope seen tables =
    scope_writes (scope_id 1 scope tables) scope tables
    ++ version_writes (scope_id 1 scope tables) (length (versions_of scope tables) + 1)
    (new_versions (versions_of scope tables) seen)

-- ---- builds
-- the id of the job's build of this number, where the ids of the builds begin with this one
abbrev pub build_id : ℕ → Text → ℕ → List BuildData → ℕ
build_id id job number [] = id
build_id id job number (b ∷ bs) = if is_build_of job number b then id else build_id (id + 1) job number bs

-- a build that runs, under the next id and with its job's next number, and what it uses
abbrev pub build_writes : Text → List UsedData → List BuildData → List WriteData
build_writes job used builds =
    write.build (length builds + 1) job (count_of job builds + 1) 0 ∷ map (used_write (length builds + 1)) used

-- ---- each change
-- what a change of this history writes
abbrev pub writes_of : EditData → HistoryData → List WriteData
writes_of (text bytes) h = write.text bytes ∷ []
writes_of (versions scope []) h = []
writes_of (versions scope (v ∷ vs)) h = report_writes scope (v ∷ vs) h.tables
writes_of (build job used) h = build_writes job used h.builds
writes_of (ended job number how moved) h =
    write.status (build_id 1 job number h.builds) (status_number how)
    ∷ map (moved_write (build_id 1 job number h.builds)) moved
writes_of (pin_set resource pin) h = write.pin resource (key_text pin) ∷ []
writes_of (pin_cleared resource) h = write.no_pin resource ∷ []
writes_of (disabled scope place) h = if has_pair (scope, place) h.disabled then [] else write.pair 0 [] scope place ∷ []
writes_of (enabled scope place) h = if has_pair (scope, place) h.disabled then write.no_pair 0 [] scope place ∷ [] else []

-- what changes write, the first of them first
abbrev pub all_writes_of : List EditData → HistoryData → List WriteData
all_writes_of [] h = []
all_writes_of (e ∷ es) h = writes_of e h ++ all_writes_of es (edited e h)
