-- What changes a history, and how.
use Rattle.std.specs.Prelude.{◌≡◌, ◌≢◌, ℕ, ◌<◌, List, [], ◌∷◌, length, filter, not, false, Option, Some, None, IsTrue, AllPairs, if◌then◌else◌, ⊤}
use Rattle.std.specs.List.{AllByRecursion}
use Rattle.std.specs.Ordering.{nat_cmp}
use Rattle.std.specs.Str.{bytes_eq}
use Rattle.std.specs.BTreeMap.{insert_entry}
use Rattle.std.specs.Cmp.Lexicographic.{slice_cmp}
use Rattle.ccr_history.specs.declared.build.Status.{Status}
use Rattle.ccr_history.specs.declared.build.Status.TheVariants.{Running}
use Rattle.ccr_history.specs.declared.builds.TheConstants.{MOST_BUILDS}
use Rattle.ccr_history.specs.Text.{Text}
use Rattle.ccr_history.specs.TextMap.{TextMap, IsAscending}
use Rattle.ccr_history.specs.Scopes.{ScopeData}
use Rattle.ccr_history.specs.Tables.{TableData, reported, is_table_full}
use Rattle.ccr_history.specs.Builds.{UsedData, BuildData, build_of, with_build, with_end}
use Rattle.ccr_history.specs.Pairs.{with_pair, without_pair}
use Rattle.ccr_history.specs.History.{HistoryData, IsUsed, has_place}

-- a named change, with the arguments of its call; a scope by its number, but in a report, which may be its first
pub data EditData : Type 0 where
  text : Text → EditData
  versions : ScopeData → List TextMap → EditData
  build : Text → List UsedData → EditData
  ended : Text → ℕ → Status → List (ℕ × ℕ) → EditData
  pin_set : Text → TextMap → EditData
  pin_cleared : Text → EditData
  disabled : ℕ → ℕ → EditData
  enabled : ℕ → ℕ → EditData

-- the pins, with this one in place of one that the resource has
abbrev pub with_pin : Text → TextMap → List (Text × TextMap) → List (Text × TextMap)
with_pin resource pin pins = insert_entry (slice_cmp nat_cmp) pins resource pin

-- the pins without that of the resource
abbrev pub without_pin : Text → List (Text × TextMap) → List (Text × TextMap)
without_pin resource pins = filter (λ p. not (bytes_eq resource p.0)) pins

-- the pin by command of a resource, if there is one
abbrev pub pin_of : Text → List (Text × TextMap) → Option TextMap
pin_of resource [] = None
pin_of resource (p ∷ ps) = if bytes_eq resource p.0 then Some p.1 else pin_of resource ps

-- the history after a change: the part that it names is new, the others stay
abbrev pub edited : EditData → HistoryData → HistoryData
edited (text t) h =
    record { tables = h.tables; builds = h.builds; pins = h.pins; disabled = h.disabled; text = Some t }
edited (versions scope vs) h =
    record {
      tables = reported scope vs h.tables;
      builds = h.builds;
      pins = h.pins;
      disabled = h.disabled;
      text = h.text;
    }
edited (build job used) h =
    record {
      tables = h.tables;
      builds = with_build job used h.builds;
      pins = h.pins;
      disabled = h.disabled;
      text = h.text;
    }
edited (ended job number status moved) h =
    record {
      tables = h.tables;
      builds = with_end job number status moved h.builds;
      pins = h.pins;
      disabled = h.disabled;
      text = h.text;
    }
edited (pin_set resource pin) h =
    record {
      tables = h.tables;
      builds = h.builds;
      pins = with_pin resource pin h.pins;
      disabled = h.disabled;
      text = h.text;
    }
edited (pin_cleared resource) h =
    record {
      tables = h.tables;
      builds = h.builds;
      pins = without_pin resource h.pins;
      disabled = h.disabled;
      text = h.text;
    }
edited (disabled scope place) h =
    record {
      tables = h.tables;
      builds = h.builds;
      pins = h.pins;
      disabled = with_pair (scope, place) h.disabled;
      text = h.text;
    }
edited (enabled scope place) h =
    record {
      tables = h.tables;
      builds = h.builds;
      pins = h.pins;
      disabled = without_pair (scope, place) h.disabled;
      text = h.text;
    }

-- the history after changes, the first of them first
abbrev pub changed : List EditData → HistoryData → HistoryData
changed [] h = h
changed (e ∷ es) h = changed es (edited e h)

-- ---- which changes a history takes
-- each input is given once, by a name, and with a place of the tables
abbrev pub AreUsed : List TableData → List UsedData → Type 0
AreUsed tables used =
    AllPairs (λ u v. bytes_eq u.input v.input ≡ false) used × AllByRecursion (IsUsed tables) used

-- each pair is given once, and is a place of the tables
abbrev pub AreMoved : List TableData → List (ℕ × ℕ) → Type 0
AreMoved tables moved =
    AllPairs (λ p q. p ≢ q) moved × AllByRecursion (λ p. IsTrue (has_place tables p.0 p.1)) moved

-- the job's build of this number runs
abbrev pub IsRunning : Text → ℕ → List BuildData → Type 0
IsRunning job number builds = (b : BuildData) × (build_of job number builds ≡ Some b) × (b.status ≡ Running)

-- the caller's conditions of the change hold, and no limit refuses it
abbrev pub Admits : HistoryData → EditData → Type 0
Admits h (text t) = ⊤
Admits h (versions scope vs) = (is_table_full scope vs h.tables ≡ false) × AllByRecursion IsAscending vs
Admits h (build job used) = (length h.builds < MOST_BUILDS) × AreUsed h.tables used
Admits h (ended job number status moved) =
    IsRunning job number h.builds × (status ≢ Running) × AreMoved h.tables moved
Admits h (pin_set resource pin) = IsAscending pin
Admits h (pin_cleared resource) = ⊤
Admits h (disabled scope place) = IsTrue (has_place h.tables scope place)
Admits h (enabled scope place) = IsTrue (has_place h.tables scope place)

-- each change is one that the history takes by then
abbrev pub AdmitsAll : HistoryData → List EditData → Type 0
AdmitsAll h [] = ⊤
AdmitsAll h (e ∷ es) = Admits h e × AdmitsAll (edited e h) es
