-- Histories of texts, as a `History` holds them.
use Rattle.std.specs.Prelude.{◌≡◌, ◌≢◌, Some, Ok, Err, Result, IsUtf8}
use Rattle.std.specs.List.{AllByRecursion}
use Rattle.serde_json.specs.Data.{object}
use Rattle.serde_json.specs.Read.{read}
use Rattle.ccr_history.specs.Text.{Text}
use Rattle.ccr_history.specs.TextMap.{TextMap, members_of, key_text}
use Rattle.ccr_history.specs.Tables.{TableData}
use Rattle.ccr_history.specs.Builds.{BuildData}
use Rattle.ccr_history.specs.History.{HistoryData}
use Rattle.ccr_history.specs.declared.store_fault.StoreFault.{StoreFault}
use Rattle.ccr_history.specs.declared.store_fault.StoreFault.TheVariants.{NoMemory, NotOurs}

-- the key of a version, or the text of a pin, is UTF-8, and JSON reads it as that map
abbrev pub IsSpelled : TextMap → Type 0
IsSpelled v = IsUtf8 (key_text v) × (read (key_text v) ≡ Some (object (members_of v)))

-- the texts of a scope are UTF-8, and its versions are spelled by their keys
abbrev pub IsTextTable : TableData → Type 0
IsTextTable t =
    IsUtf8 t.scope.resource × IsUtf8 t.scope.kind × IsUtf8 t.scope.source × AllByRecursion IsSpelled t.versions

-- the names of a job and of its inputs are UTF-8
abbrev pub IsTextBuild : BuildData → Type 0
IsTextBuild b = IsUtf8 b.job × AllByRecursion (λ u. IsUtf8 u.input) b.used

-- the name of a resource is UTF-8, and its pin is spelled by its text
abbrev pub IsTextPin : Text × TextMap → Type 0
IsTextPin p = IsUtf8 p.0 × IsSpelled p.1

-- the texts of the history are UTF-8, and its versions and pins are spelled by theirs
pub record HasTexts (h : HistoryData) : Type 0 where
  pub tables : AllByRecursion IsTextTable h.tables
  pub builds : AllByRecursion IsTextBuild h.builds
  pub pins : AllByRecursion IsTextPin h.pins

-- the call gives such a value, unless it is out of memory
abbrev pub OrNoMemory : {X : Type 0} → (X → Type 0) → Result X StoreFault → Type 0
OrNoMemory P (Ok x) = P x
OrNoMemory P (Err fault) = fault ≡ NoMemory

-- the call gives such a value, or a fault that doesn't blame the tables
abbrev pub OrFault : {X : Type 0} → (X → Type 0) → Result X StoreFault → Type 0
OrFault P (Ok x) = P x
OrFault P (Err fault) = fault ≢ NotOurs
