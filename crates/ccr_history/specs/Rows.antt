-- How builds are kept: each a row, with numbers in place of the names of its job and its inputs.
use Rattle.std.specs.Prelude.{◌≡◌, ℕ, ◌+◌, ◌<◌, ◌≤◌, List, [], ◌∷◌, ◌++◌, ◌⊎◌, map, take, drop, length, slice_get, Bool, ◌&&◌, ◌==◌, if◌then◌else◌, Option, Some, None}
use Rattle.std.specs.List.{AllByRecursion, list_any}
use Rattle.std.specs.Map.{lookup}
use Rattle.ccr_history.specs.declared.build.Status.{Status}
use Rattle.ccr_history.specs.declared.build.Status.TheVariants.{Running}
use Rattle.ccr_history.specs.declared.used_row.UsedRow.{UsedRow}
use Rattle.ccr_history.specs.declared.used_row.InputScope.{InputScope}
use Rattle.ccr_history.specs.Text.{Text}
use Rattle.ccr_history.specs.Names.{name_at}
use Rattle.ccr_history.specs.Builds.{UsedData, BuildData, positions}
use Rattle.ccr_history.specs.Newest.{last_given}

-- a build, its job by number
pub record RowData : Type 0 where
  pub job : ℕ
  pub number : ℕ
  pub status : Status
  pub used : List UsedRow
  pub moved : List (ℕ × ℕ)

-- a build as it is kept: its used places are so many of those of all builds, from this one on
pub record KeptData : Type 0 where
  pub job : ℕ
  pub number : ℕ
  pub status : Status
  pub from : ℕ
  pub count : ℕ
  pub moved : List (ℕ × ℕ)

-- the builds, and how many more of them and of their used places there is room for
pub record RowsData : Type 0 where
  pub rows : List RowData
  pub room : ℕ
  pub places : ℕ

-- what is kept of a job: the positions of its builds, each place that one of them used, and for an input in a scope the
-- place that the newest of them had
pub record JobData : Type 0 where
  pub at : List ℕ
  pub used : List UsedRow
  pub newest : List (InputScope × ℕ)

-- nothing is kept of a job without builds
abbrev pub no_job : JobData
no_job = record { at = []; used = []; newest = [] }

-- ---- what is kept as rows
-- a build with its used places
abbrev pub with_places : List UsedRow → KeptData → RowData
with_places used k =
    record { job = k.job; number = k.number; status = k.status; used = used; moved = k.moved }

-- a build with its part of the used places of all
abbrev pub row_data : List UsedRow → KeptData → RowData
row_data places k = with_places (take k.count (drop k.from places)) k

-- its part is there
abbrev pub IsWithin : List UsedRow → KeptData → Type 0
IsWithin places k = k.from + k.count ≤ length places

-- ---- rows as builds
-- a used place, its input by name
abbrev pub used_data : (inputs : List Text) → UsedRow → UsedData
used_data inputs u = record { input = name_at inputs u.input; scope = u.scope; place = u.place }

-- a build, its job and its inputs by name
abbrev pub build_data : (jobs inputs : List Text) → RowData → BuildData
build_data jobs inputs r =
    record {
      job = name_at jobs r.job;
      number = r.number;
      status = r.status;
      used = map (used_data inputs) r.used;
      moved = r.moved;
    }

-- the builds that the rows are
abbrev pub builds_data : (jobs inputs : List Text) → List RowData → List BuildData
builds_data jobs inputs rows = map (build_data jobs inputs) rows

-- a row as it begins
abbrev pub new_row : ℕ → ℕ → List UsedRow → RowData
new_row job number used = record { job = job; number = number; status = Running; used = used; moved = [] }

-- a row that ended so
abbrev pub ended_row : Status → List (ℕ × ℕ) → RowData → RowData
ended_row status moved r =
    record { job = r.job; number = r.number; status = status; used = r.used; moved = moved }

-- ---- what is kept beside the rows
-- the two used places are one
abbrev pub is_same : UsedRow → UsedRow → Bool
is_same u v = u.input == v.input && (u.scope == v.scope && u.place == v.place)

-- the row is a build of the job
abbrev pub is_row_of : ℕ → RowData → Bool
is_row_of job r = job == r.job

-- a row of the job used this place
abbrev pub has_used_row : ℕ → UsedRow → List RowData → Bool
has_used_row job u rows = list_any (λ r. is_row_of job r && list_any (is_same u) r.used) rows

-- the two are one input in one scope
abbrev pub is_input_scope : InputScope → InputScope → Bool
is_input_scope s t = s.input == t.input && s.scope == t.scope

-- the place of a used place, if it is one of this input in this scope
abbrev pub row_if_at : InputScope → UsedRow → Option ℕ
row_if_at s u = if s.input == u.input && s.scope == u.scope then Some u.place else None

-- the place that a row used for this input in this scope, if it is a build of the job and used one
abbrev pub row_used : ℕ → InputScope → RowData → Option ℕ
row_used job s r = if is_row_of job r then last_given (row_if_at s) r.used else None

-- the job and the inputs of a row have names
abbrev pub IsNamed : (jobs inputs : ℕ) → RowData → Type 0
IsNamed jobs inputs r = (r.job < jobs) × AllByRecursion (λ u. u.input < inputs) r.used

-- each build of the job is kept, each place that one of them used, and the newest one of each input in each scope
abbrev pub KeepsJob : List RowData → ℕ → JobData → Type 0
KeepsJob rows job kept =
    (kept.at ≡ positions (is_row_of job) rows)
    × ((u : UsedRow) → list_any (is_same u) kept.used ≡ has_used_row job u rows)
    × ((s : InputScope) → lookup (is_input_scope s) kept.newest ≡ last_given (row_used job s) rows)

-- the rows have names, and of each job its builds are kept
pub record IsLinked (jobs inputs : List Text) (rows : List RowData) (kept : List JobData) : Type 0 where
  pub named : AllByRecursion (IsNamed (length jobs) (length inputs)) rows
  pub enough : length jobs ≤ length kept
  pub keeps : (job : ℕ) (d : JobData) → slice_get kept job ≡ Some d → KeepsJob rows job d

-- the second has what is kept of the same jobs, and of at most one more, which has no builds
abbrev pub HasOneMore : List JobData → List JobData → Type 0
HasOneMore kept more = (more ≡ kept) ⊎ (more ≡ kept ++ no_job ∷ [])
