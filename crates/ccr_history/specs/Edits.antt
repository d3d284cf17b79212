-- What the edits of a change hold, without where it lies in memory, and the numbers that they carry.
use Rattle.std.specs.Prelude.{◌≡◌, ℕ, ◌+◌, List, [], ◌∷◌, ◌++◌, length, map, string_bytes, not, ◌==◌, if◌then◌else◌, ⊤}
use Rattle.ccr_history.specs.declared.change.Edit.{Edit}
use Rattle.ccr_history.specs.declared.change.Edit.TheVariants.{Text, Versions, Build, Ended, PinSet, PinCleared, Disabled, Enabled}
use Rattle.ccr_history.specs.Text.{Text as Bytes}
use Rattle.ccr_history.specs.TextMap.{TextMap}
use Rattle.ccr_history.specs.Tables.{with_versions, versions_of, reported, scope_number}
use Rattle.ccr_history.specs.Builds.{BuildData, count_of, is_build_of}
use Rattle.ccr_history.specs.Pairs.{has_pair}
use Rattle.ccr_history.specs.History.{HistoryData}
use Rattle.ccr_history.specs.Changes.{EditData, text, versions, build, ended, pin_set, pin_cleared, disabled, enabled, edited, AdmitsAll}

-- what an edit holds, without where it lies in memory and without its numbers
abbrev pub edit_data : Edit → EditData
edit_data (Text bytes) = text bytes.items
edit_data (Versions r) = versions r.scope r.versions.items
edit_data (Build b) = build (string_bytes b.job) b.used.items
edit_data (Ended e) = ended (string_bytes e.job) e.number e.status e.moved.items
edit_data (PinSet resource pin) = pin_set (string_bytes resource) pin
edit_data (PinCleared resource) = pin_cleared (string_bytes resource)
edit_data (Disabled s) = disabled s.scope s.place
edit_data (Enabled s) = enabled s.scope s.place

-- what the edits of a change hold, in their order
abbrev pub change_data : List Edit → List EditData
change_data es = map edit_data es

-- ---- the numbers
-- the versions are new to a table that has these: each comes behind them, at the next place
abbrev pub AreNew : List TextMap → List TextMap → Type 0
AreNew known vs = with_versions known vs ≡ known ++ vs

-- the row of the job's build of this number, from 1 in order of making; 0 where there is none
abbrev pub row_of : Bytes → ℕ → List BuildData → ℕ
row_of job number [] = 0
row_of job number (b ∷ bs) =
    if is_build_of job number b then 1 else (if row_of job number bs == 0 then 0 else row_of job number bs + 1)

-- the edit carries the numbers of the history that it changes: of a report its scope's number, whether that is a new
-- one, and the first place of versions that are all new; of a build its row, and its number where it is made; of a place
-- that is disabled or enabled, whether it wasn't so before
abbrev pub HasItsNumbers : HistoryData → Edit → Type 0
HasItsNumbers h (Text bytes) = ⊤
HasItsNumbers h (Versions r) =
    (r.number ≡ scope_number r.scope (reported r.scope r.versions.items h.tables))
    × (r.is_new ≡ (scope_number r.scope h.tables == 0))
    × (r.first ≡ length (versions_of r.scope h.tables) + 1)
    × AreNew (versions_of r.scope h.tables) r.versions.items
HasItsNumbers h (Build b) =
    (b.row ≡ length h.builds + 1) × (b.number ≡ count_of (string_bytes b.job) h.builds + 1)
HasItsNumbers h (Ended e) = e.row ≡ row_of (string_bytes e.job) e.number h.builds
HasItsNumbers h (PinSet resource pin) = ⊤
HasItsNumbers h (PinCleared resource) = ⊤
HasItsNumbers h (Disabled s) = s.is_changed ≡ not (has_pair (s.scope, s.place) h.disabled)
HasItsNumbers h (Enabled s) = s.is_changed ≡ has_pair (s.scope, s.place) h.disabled

-- each edit carries the numbers of the history that there is by then
abbrev pub HaveTheirNumbers : HistoryData → List Edit → Type 0
HaveTheirNumbers h [] = ⊤
HaveTheirNumbers h (e ∷ es) = HasItsNumbers h e × HaveTheirNumbers (edited (edit_data e) h) es

-- the history takes the edits, each by then, and they carry its numbers
abbrev pub Accepts : HistoryData → List Edit → Type 0
Accepts h es = AdmitsAll h (change_data es) × HaveTheirNumbers h es
