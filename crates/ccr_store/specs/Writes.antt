-- What the edits of a change write.
use Rattle.std.specs.Prelude.{ℕ, ◌+◌, ◌≤◌, [], ◌∷◌, ◌++◌, List, map, length, Bool, if◌then◌else◌, string_bytes, ⊤}
use Rattle.ccr_history.specs.declared.change.Edit.{Edit}
use Rattle.ccr_history.specs.declared.change.Edit.TheVariants.{Text, Versions, Build, Ended, PinSet, PinCleared, Disabled, Enabled}
use Rattle.ccr_history.specs.declared.change.Reported.{Reported}
use Rattle.ccr_history.specs.declared.table.TheConstants.{MOST_VERSIONS}
use Rattle.ccr_history.specs.TextMap.{TextMap, key_text}
use Rattle.ccr_history.specs.Scopes.{ScopeData}
use Rattle.ccr_history.specs.Builds.{UsedData}
use Rattle.ccr_store.specs.Rows.{status_number}
use Rattle.ccr_store.specs.WriteData.{WriteData}
use Rattle.ccr_store.specs.WriteData as write

-- a scope, if it is new
abbrev pub scope_writes : Bool → ℕ → ScopeData → List WriteData
scope_writes is_new number scope =
    if is_new then write.scope number scope.resource scope.kind scope.source ∷ [] else []

-- versions of a scope at places from this one up
abbrev pub version_writes : ℕ → ℕ → List TextMap → List WriteData
version_writes scope place [] = []
version_writes scope place (v ∷ vs) =
    write.version scope place (key_text v) ∷ version_writes scope (place + 1) vs

-- the scope of a report, if it is new, and these versions of it; nothing where there are none
abbrev pub report_writes : Reported → List TextMap → List WriteData
report_writes r [] = []
report_writes r (v ∷ vs) = scope_writes r.is_new r.number r.scope ++ version_writes r.number r.first (v ∷ vs)

-- a used place, under its input
abbrev pub used_write : ℕ → UsedData → WriteData
used_write id u = write.pair id u.input u.scope u.place

-- a moved pair, under the empty input
abbrev pub moved_write : ℕ → ℕ × ℕ → WriteData
moved_write id p = write.pair id [] p.0 p.1

-- what an edit writes, under the numbers that it carries
abbrev pub edit_writes : Edit → List WriteData
edit_writes (Text bytes) = write.text bytes.items ∷ []
edit_writes (Versions r) = report_writes r r.versions.items
edit_writes (Build b) = write.build b.row (string_bytes b.job) b.number 0 ∷ map (used_write b.row) b.used.items
edit_writes (Ended e) = write.status e.row (status_number e.status) ∷ map (moved_write e.row) e.moved.items
edit_writes (PinSet resource pin) = write.pin (string_bytes resource) (key_text pin) ∷ []
edit_writes (PinCleared resource) = write.no_pin (string_bytes resource) ∷ []
edit_writes (Disabled s) = if s.is_changed then write.pair 0 [] s.scope s.place ∷ [] else []
edit_writes (Enabled s) = if s.is_changed then write.no_pair 0 [] s.scope s.place ∷ [] else []

-- what the edits of a change write, the first of them first
abbrev pub change_writes : List Edit → List WriteData
change_writes [] = []
change_writes (e ∷ es) = edit_writes e ++ change_writes es

-- the places of reported versions are ones that a table has
abbrev pub HasPlaces : Edit → Type 0
HasPlaces (Text bytes) = ⊤
HasPlaces (Versions r) = r.first + length r.versions.items ≤ MOST_VERSIONS + 1
HasPlaces (Build b) = ⊤
HasPlaces (Ended e) = ⊤
HasPlaces (PinSet resource pin) = ⊤
HasPlaces (PinCleared resource) = ⊤
HasPlaces (Disabled s) = ⊤
HasPlaces (Enabled s) = ⊤
