-- What an index keeps of an input and of a named job's builds.
use Rattle.std.specs.Prelude.{◌≡◌, ℕ, ◌+◌, ◌<◌, ◌≤◌, List, [], ◌∷◌, ◌++◌, length, map, reverse, take, Bool, ◌&&◌, ◌==◌, nat_eq, Option, Some, None, unwrap_or, if◌then◌else◌, slice_range, slice_index, slice_index_or, All, min}
use Rattle.std.specs.List.{list_any}
use Rattle.std.specs.HashMap.{HashMap, get}
use Rattle.ccr_choice.specs.Problem.{InputValue, BuildValue}
use Rattle.ccr_choice.specs.Ascending.{AreAscending}
use Rattle.ccr_index.specs.declared.rows.Row.{Row}
use Rattle.ccr_index.specs.declared.rows.Seen.{Seen}

-- ---- inputs
-- An input, and how many further places it has room for.
pub record InputRowsValue : Type 0 where
  pub input : InputValue
  pub spare : ℕ

-- The input with one more allowed place, the last.
abbrev pub with_place : InputValue → ℕ → InputValue
with_place x place = record { scope = x.scope; places = x.places ++ place ∷ []; jobs = x.jobs; after = x.after }

-- The input with this place kept: those above it come first.
abbrev pub with_kept : InputValue → ℕ → InputValue
with_kept x place = record { scope = x.scope; places = x.places; jobs = x.jobs; after = Some place }

-- The last of these numbers, or the one given where there is none.
abbrev pub last_after : ℕ → List ℕ → ℕ
last_after low [] = low
last_after low (n ∷ ns) = last_after n ns

-- ---- builds
-- The builds of a job, newest first, which scopes count for it, and how many further pairs and builds there is room for.
pub record JobRowsValue : Type 0 where
  pub builds : List BuildValue
  pub scopes : List Bool
  pub spare : ℕ

abbrev pub no_build : BuildValue
no_build = record { number = 0; pairs = [] }

-- Each build has a greater number than the ones behind it.
abbrev pub AreDescending : List BuildValue → Type 0
AreDescending bs =
    (i j : ℕ) → i < j → j < length bs → (slice_index_or bs j no_build).number < (slice_index_or bs i no_build).number

-- The build with this number, if there is one.
abbrev pub numbered : List BuildValue → ℕ → Option BuildValue
numbered [] n = None
numbered (b ∷ bs) n = if b.number == n then Some b else numbered bs n

-- ---- rows
-- The build of a row: its pairs lie beside each other in the pool.
abbrev pub build_of_row : List (ℕ × ℕ) → Row → BuildValue
build_of_row pool r = record { number = r.number; pairs = slice_range pool r.from (r.from + r.count) }

-- The builds of the rows, the newest first.
abbrev pub builds_of : List (ℕ × ℕ) → List Row → List BuildValue
builds_of pool rows = reverse (map (build_of_row pool) rows)

abbrev pub pair_eq : ℕ × ℕ → ℕ × ℕ → Bool
pair_eq p q = nat_eq p.0 q.0 && nat_eq p.1 q.1

-- Whether this pair is among these.
abbrev pub is_among : List (ℕ × ℕ) → ℕ × ℕ → Bool
is_among pairs pair = list_any (λ q. pair_eq q pair) pairs

-- How many builds there are up to the newest one with this pair, counted from the oldest; 0 where none has the pair.
abbrev pub last_with : List BuildValue → ℕ × ℕ → ℕ
last_with [] pair = 0
last_with (b ∷ bs) pair = if is_among b.pairs pair then length bs + 1 else last_with bs pair

-- What a map has for this pair, zeros where it has nothing.
abbrev pub seen_in : {S : Type 0} → HashMap (ℕ × ℕ) Seen S → ℕ × ℕ → Seen
seen_in m pair = unwrap_or (get pair_eq m pair) (record { row = 0; size = 0 })

-- One more than the row that a map has for this pair, 0 where it has none.
abbrev pub number_for : {S : Type 0} → HashMap (ℕ × ℕ) Seen S → ℕ × ℕ → ℕ
number_for m pair = (seen_in m pair).row

-- The size that a map has for this pair, 0 where it has none.
abbrev pub size_for : {S : Type 0} → HashMap (ℕ × ℕ) Seen S → ℕ × ℕ → ℕ
size_for m pair = (seen_in m pair).size

-- A row's pairs lie in the pool and ascend.
pub record IsRow (pool : List (ℕ × ℕ)) (r : Row) : Type 0 where
  pub within : r.from + r.count ≤ length pool
  pub ascending : AreAscending (slice_range pool r.from (r.from + r.count))

-- What every table of rows keeps: the rows are rows of the pool; of each pair, newest tells the last row with it, and earlier, at
-- the place of a row's pair in the pool, the last row before with the same pair.
pub record AreRows (pool : List (ℕ × ℕ)) (rows : List Row) (earlier : List ℕ) (newest : ℕ × ℕ → ℕ) : Type 0 where
  pub each : All (IsRow pool) rows
  pub long : length earlier ≡ length pool
  pub told : (pair : ℕ × ℕ) → newest pair ≡ last_with (builds_of pool rows) pair
  pub before : (k n : ℕ) (d : Row) → k < length rows → n < (slice_index_or rows k d).count
      → slice_index earlier ((slice_index_or rows k d).from + n)
      ≡ last_with (builds_of pool (take k rows)) (slice_index_or pool ((slice_index_or rows k d).from + n) (0, 0))

-- The least of four numbers of places that are left.
abbrev pub least : ℕ → ℕ → ℕ → ℕ → ℕ
least a b c d = min a (min b (min c d))

-- No build has a pair of a greater place, and this is the least number of which that is so.
pub record IsTopPlace (bs : List BuildValue) (top : ℕ) : Type 0 where
  pub covers : All (λ b. All (λ q. q.1 ≤ top) b.pairs) bs
  pub least : (n : ℕ) → All (λ b. All (λ q. q.1 ≤ n) b.pairs) bs → top ≤ n
