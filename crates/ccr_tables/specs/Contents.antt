-- What the six tables hold.
use Rattle.std.specs.Prelude.{◌≡◌, pos, [], ◌∷◌, ℕ, ℤ, List, map, IsPermutation}
use Rattle.sqlite.specs.declared.types.Value.TheVariants.{Int, Text, Blob}
use Rattle.std.specs.List.{AllByRecursion}
use Rattle.sqlite.specs.Order.{Row, column}
use Rattle.sqlite.specs.Tree.{Trees}
use Rattle.sqlite.specs.Effect.{Database}
use Rattle.sqlite_trees.specs.declared.store.Shape.TheVariants.{Table}
use Rattle.sqlite_trees.specs.View.{IsShaped}
use Rattle.sqlite_catalog.specs.Listing.{IsSound}
use Rattle.sqlite.specs.Schema.{Schema}
use Rattle.ccr_tables.specs.Schema.{our_schema}

-- The rows of each table, each as the table's SELECT shows it, in any order.
pub record Contents : Type 0 where
  pub meta : List Row
  pub scopes : List Row
  pub versions : List Row
  pub builds : List Row
  pub pairs : List Row
  pub pins : List Row

-- A stored row is its number, and then its columns; a column that is the number itself is stored as NULL.

-- k, v
abbrev pub meta_row : Row → Row
meta_row row = column row 0 ∷ column row 2 ∷ []

-- id, resource, kind, source
abbrev pub scope_row : Row → Row
scope_row row = column row 0 ∷ column row 2 ∷ column row 3 ∷ column row 4 ∷ []

-- scope, place, body
abbrev pub version_row : Row → Row
version_row row = column row 1 ∷ column row 2 ∷ column row 3 ∷ []

-- id, job, number, status
abbrev pub build_row : Row → Row
build_row row = column row 0 ∷ column row 2 ∷ column row 3 ∷ column row 4 ∷ []

-- build, input, scope, place
abbrev pub pair_row : Row → Row
pair_row row = column row 1 ∷ column row 2 ∷ column row 3 ∷ column row 4 ∷ []

-- resource, body
abbrev pub pin_row : Row → Row
pin_row row = column row 1 ∷ column row 2 ∷ []

-- a stored row of builds has a text and a number where the job and its count stand
abbrev pub IsBuild : Row → Type 0
IsBuild row = (job : List ℕ) × (number : ℤ) × (column row 2 ≡ Text job) × (column row 3 ≡ Int number)

-- The trees of the six tables show these contents; where rows are changed or removed, no two have one number.
pub record Keeps (these : Contents) (trees : Trees) : Type 0 where
  pub meta : IsPermutation these.meta (map meta_row (trees 0))
  pub scopes : IsPermutation these.scopes (map scope_row (trees 1))
  pub versions : IsPermutation these.versions (map version_row (trees 3))
  pub builds : IsPermutation these.builds (map build_row (trees 6))
  pub pairs : IsPermutation these.pairs (map pair_row (trees 8))
  pub pins : IsPermutation these.pins (map pin_row (trees 10))
  pub numbered_meta : IsShaped Table (trees 0)
  pub numbered_builds : IsShaped Table (trees 6)
  pub numbered_pairs : IsShaped Table (trees 8)
  pub numbered_pins : IsShaped Table (trees 10)
  pub typed_builds : AllByRecursion IsBuild (trees 6)

-- The database has the six tables and no other, and they hold these contents.
pub record Holds (these : Contents) (db : Database) : Type 0 where
  pub schema : db.schema ≡ our_schema
  pub rows : Keeps these db.trees

-- the list of objects of these trees tells exactly the six tables: each schema that is sound for them is ours
abbrev pub ListOurs : Trees → Type 0
ListOurs trees = (schema : Schema) → IsSound schema trees → schema ≡ our_schema

-- no rows at all
abbrev pub no_contents : Contents
no_contents = record { meta = []; scopes = []; versions = []; builds = []; pairs = []; pins = [] }

-- a new database: the format's number and nothing else
abbrev pub new_contents : Contents
new_contents = record no_contents { meta = (Int (pos 1) ∷ Blob (50 ∷ []) ∷ []) ∷ [] }
