-- Version tables: what has been seen in each scope, in order of first report.
use Rattle.std.specs.Prelude.{◌≡◌, ℕ, ◌+◌, ◌-◌, ◌≤◌, List, [], ◌∷◌, ◌++◌, length, map, slice_get, Bool, false, ◌&&◌, ◌||◌, ◌==◌, nat_lt, if◌then◌else◌, Option, None, option_map, unwrap_or, AllPairs}
use Rattle.std.specs.List.{list_any, AllByRecursion}
use Rattle.ccr_history.specs.declared.table.TheConstants.{MOST_VERSIONS, MOST_SCOPES}
use Rattle.ccr_history.specs.Scopes.{ScopeData, is_scope}
use Rattle.ccr_history.specs.TextMap.{TextMap, is_version, IsAscending}

-- a scope with its versions; a version's place is its position in the list, from 1
pub record TableData : Type 0 where
  pub scope : ScopeData
  pub versions : List TextMap

-- the list has the version
abbrev pub has_version : List TextMap → TextMap → Bool
has_version versions v = list_any (is_version v) versions

-- a version that the list lacks comes to its end; a known one keeps its place
abbrev pub with_version : List TextMap → TextMap → List TextMap
with_version versions v = if has_version versions v then versions else versions ++ v ∷ []

-- the versions after these are reported, in the order of the report
abbrev pub with_versions : List TextMap → List TextMap → List TextMap
with_versions versions [] = versions
with_versions versions (v ∷ vs) = with_versions (with_version versions v) vs

-- the tables after a report: its versions come to the table of their scope, or to a new table at the end
abbrev pub with_report : ScopeData → List TextMap → List TableData → List TableData
with_report scope versions [] = record { scope = scope; versions = with_versions [] versions } ∷ []
with_report scope versions (t ∷ ts) =
    if is_scope scope t.scope then record { scope = t.scope; versions = with_versions t.versions versions } ∷ ts
    else t ∷ with_report scope versions ts

-- the tables after a report; one without versions changes nothing
abbrev pub reported : ScopeData → List TextMap → List TableData → List TableData
reported scope [] tables = tables
reported scope (v ∷ vs) tables = with_report scope (v ∷ vs) tables

-- the versions of a scope; none where it has no table
abbrev pub versions_of : ScopeData → List TableData → List TextMap
versions_of scope [] = []
versions_of scope (t ∷ ts) = if is_scope scope t.scope then t.versions else versions_of scope ts

-- how many versions of a report its scope lacks, a repeated one counted once
abbrev pub new_count : ScopeData → List TextMap → List TableData → ℕ
new_count scope versions tables =
    length (versions_of scope (reported scope versions tables)) - length (versions_of scope tables)

-- the report can't be taken: its scope would have too many versions, or be one scope too many
abbrev pub is_table_full : ScopeData → List TextMap → List TableData → Bool
is_table_full scope versions tables =
    nat_lt MOST_VERSIONS (length (versions_of scope (reported scope versions tables)))
    || nat_lt MOST_SCOPES (length (reported scope versions tables))

-- the number of a scope, from 1 in order of making; 0 where it has no table
abbrev pub scope_number : ScopeData → List TableData → ℕ
scope_number scope [] = 0
scope_number scope (t ∷ ts) =
    if is_scope scope t.scope then 1 else (if scope_number scope ts == 0 then 0 else scope_number scope ts + 1)

-- the place of a version in its list, from 1; 0 where it isn't there
abbrev pub place_in : TextMap → List TextMap → ℕ
place_in v [] = 0
place_in v (w ∷ ws) = if is_version v w then 1 else (if place_in v ws == 0 then 0 else place_in v ws + 1)

-- ---- reading by number and place
-- what stands at this place of a list, the first at 1
abbrev pub at_place : {X : Type 0} → ℕ → List X → Option X
at_place place xs = if place == 0 then None else slice_get xs (place - 1)

-- the versions of the scope of this number; none where there is no such scope
abbrev pub versions_at : ℕ → List TableData → List TextMap
versions_at number tables = unwrap_or (option_map (λ t. t.versions) (at_place number tables)) []

-- ---- how tables are kept
-- versions that a table may have: not too many, none of them twice, each with its keys in ascending order
abbrev pub AreVersions : List TextMap → Type 0
AreVersions versions =
    (length versions ≤ MOST_VERSIONS)
    × AllPairs (λ v w. is_version v w ≡ false) versions
    × AllByRecursion IsAscending versions

-- a scope and its versions, as a table
abbrev pub table_of : ScopeData × List TextMap → TableData
table_of entry = record { scope = entry.0; versions = entry.1 }

-- scopes and their versions, as tables
abbrev pub tables_of : List (ScopeData × List TextMap) → List TableData
tables_of entries = map table_of entries
