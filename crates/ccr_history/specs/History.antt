-- Histories: what has been seen, built and passed, and the rules that every history keeps.
use Rattle.std.specs.Prelude.{◌≡◌, ◌≢◌, ℕ, ◌+◌, ◌-◌, ◌≤◌, ◌<◌, List, [], ◌∷◌, length, map, take, slice_get, Bool, false, ◌&&◌, ◌==◌, nat_lt, nat_le, if◌then◌else◌, Option, Some, None, IsTrue, AllPairs}
use Rattle.std.specs.List.{AllByRecursion}
use Rattle.std.specs.List.Sorted.{IsStrictlySortedBy}
use Rattle.std.specs.Ordering.{nat_cmp}
use Rattle.std.specs.Cmp.Lexicographic.{slice_cmp}
use Rattle.ccr_history.specs.declared.table.TheConstants.{MOST_VERSIONS, MOST_SCOPES}
use Rattle.ccr_history.specs.declared.builds.TheConstants.{MOST_BUILDS}
use Rattle.ccr_history.specs.declared.build.Status.TheVariants.{Running}
use Rattle.ccr_history.specs.Text.{Text}
use Rattle.ccr_history.specs.TextMap.{TextMap, IsAscending, is_version}
use Rattle.ccr_history.specs.Tables.{TableData}
use Rattle.ccr_history.specs.Scopes.{is_scope}
use Rattle.ccr_history.specs.Builds.{UsedData, BuildData, is_before, count_of}
use Rattle.ccr_history.specs.Pairs.{ArePairs}

-- a history: the version tables, the builds in order of making, the pins by command of resources, the disabled places,
-- pairs of scope and place, and the pipeline's text, if one was set
pub record HistoryData : Type 0 where
  pub tables : List TableData
  pub builds : List BuildData
  pub pins : List (Text × TextMap)
  pub disabled : List (ℕ × ℕ)
  pub text : Option Text

-- nothing seen, nothing built
abbrev pub no_history : HistoryData
no_history = record { tables = []; builds = []; pins = []; disabled = []; text = None }

-- ---- the rules
-- a table has versions, none of them twice and not too many, each with its keys in ascending order
abbrev pub IsTable : TableData → Type 0
IsTable t =
    (0 < length t.versions)
    × (length t.versions ≤ MOST_VERSIONS)
    × AllPairs (λ v w. is_version v w ≡ false) t.versions
    × AllByRecursion IsAscending t.versions

-- no two tables have one scope, and there are not too many
abbrev pub AreTables : List TableData → Type 0
AreTables tables =
    (length tables ≤ MOST_SCOPES)
    × AllPairs (λ s t. is_scope s.scope t.scope ≡ false) tables
    × AllByRecursion IsTable tables

-- how many places the scope of this number has
abbrev pub places_at : List TableData → ℕ → ℕ
places_at [] n = 0
places_at (t ∷ ts) n = if n == 1 then length t.versions else places_at ts (n - 1)

-- the scope of this number has this place
abbrev pub has_place : List TableData → ℕ → ℕ → Bool
has_place tables scope place = nat_lt 0 place && nat_le place (places_at tables scope)

-- an input has a name, and what it used is a place of the tables
abbrev pub IsUsed : List TableData → UsedData → Type 0
IsUsed tables u = (u.input ≢ []) × IsTrue (has_place tables u.scope u.place)

-- what a build used, each input once by ascending name, and what it moved, each pair once by scope and place, are
-- places of the tables; while it runs it has moved nothing
abbrev pub IsBuild : List TableData → BuildData → Type 0
IsBuild tables b =
    IsStrictlySortedBy (slice_cmp nat_cmp) (map (λ u. u.input) b.used)
    × AllByRecursion (IsUsed tables) b.used
    × AllPairs (λ p q. IsTrue (is_before p q)) b.moved
    × AllByRecursion (λ p. IsTrue (has_place tables p.0 p.1)) b.moved
    × (b.status ≡ Running → b.moved ≡ [])

-- a build's number is one more than the count of its job's earlier builds
abbrev pub AreNumbered : List BuildData → Type 0
AreNumbered builds =
    (i : ℕ) (b : BuildData) → slice_get builds i ≡ Some b → b.number ≡ count_of b.job (take i builds) + 1

-- there are not too many builds
abbrev pub AreBuilds : List TableData → List BuildData → Type 0
AreBuilds tables builds =
    (length builds ≤ MOST_BUILDS) × AreNumbered builds × AllByRecursion (IsBuild tables) builds

-- each resource has at most one pin, in ascending order of the names
abbrev pub ArePins : List (Text × TextMap) → Type 0
ArePins pins =
    IsStrictlySortedBy (slice_cmp nat_cmp) (map (λ p. p.0) pins) × AllByRecursion (λ p. IsAscending p.1) pins

-- the disabled places are places of the tables, each once, by scope and place
abbrev pub AreDisabled : List TableData → List (ℕ × ℕ) → Type 0
AreDisabled tables disabled = ArePairs disabled × AllByRecursion (λ p. IsTrue (has_place tables p.0 p.1)) disabled

-- what every history keeps
abbrev pub IsHistory : HistoryData → Type 0
IsHistory h = AreTables h.tables × AreBuilds h.tables h.builds × ArePins h.pins × AreDisabled h.tables h.disabled
