-- The keys that have no effect, each by its path. What is in them isn't looked into.
use Rattle.std.specs.Prelude.{ℕ, zero, suc, ◌+◌, List, [], ◌∷◌, ◌++◌, ◌||◌, is_some, if◌then◌else◌}
use Rattle.std.specs.Cmp.Lexicographic.{slice_cmp}
use Rattle.std.specs.List.{flat_map, Contains}
use Rattle.std.specs.List.Sorted.{IsStrictlySortedBy}
use Rattle.std.specs.Ordering.{nat_cmp}
use Rattle.serde_json.specs.Data.{Data, Items, no_items, item, Members, no_members, member}
use Rattle.serde_json.specs.Find.{as_null, as_object}
use Rattle.ccr_pipeline.specs.declared.schema.Kind.{Kind}
use Rattle.ccr_pipeline.specs.declared.schema.Kind.TheVariants as kind
use Rattle.ccr_pipeline.specs.declared.schema.Schema.{Schema}
use Rattle.ccr_pipeline.specs.declared.schema.Schema.TheVariants as schema
use Rattle.ccr_pipeline.specs.declared.schema.TheConstants.{NESTED}
use Rattle.ccr_pipeline.specs.Faults.{Path}
use Rattle.ccr_pipeline.specs.Keys.{at_key, or_else, items_in, path_below, path_at}
use Rattle.ccr_pipeline.specs.Places.{Part, Opening, Closing, Spot, all_steps}
use Rattle.ccr_pipeline.specs.Schema.{Row, opening, has_key, schema_of}

-- an object's members at keys that it can't have, unless null stands there
abbrev pub unused_members : Schema → Path → Members → List Path
unused_members s p no_members = []
unused_members s p (member k d ms) =
    (if is_some (as_null d) || has_key s k then [] else path_below p k ∷ []) ++ unused_members s p ms

-- the unused keys of an object itself
abbrev pub unused_own : Schema → Path → Data → List Path
unused_own s p d = or_else (as_object d) [] (unused_members s p)

-- those of the objects of a list, each by rec, from position i on
abbrev pub unused_items : (Path → Data → List Path) → Path → ℕ → Items → List Path
unused_items rec p i no_items = []
unused_items rec p i (item d ds) = rec (path_at p i) d ++ unused_items rec p (i + 1) ds

-- those of the objects that a value of a kind holds, each by rec
abbrev pub unused_value : (Schema → Path → Data → List Path) → Kind → Path → Data → List Path
unused_value rec (kind.Object s) p d = rec s p d
unused_value rec (kind.Objects s) p d = unused_items (rec s) p 0 (items_in d)
unused_value rec kind.Parallel p d = rec schema.Parallel p d
unused_value rec _ p d = []

-- those of the objects at the keys of a table, each by rec
abbrev pub unused_rows : (Schema → Path → Data → List Path) → List Row → Path → Data → List Path
unused_rows rec [] p d = []
unused_rows rec (r ∷ rs) p d =
    or_else (at_key r.2 d) [] (unused_value rec r.1 (path_below p r.2)) ++ unused_rows rec rs p d

-- the unused keys of an object, and of the objects that its keys hold, so many levels down
unfoldable pub unused_object : ℕ → Schema → Path → Data → List Path
unused_object zero s p d = []
unused_object (suc n) s p d = unused_own s p d ++ unused_rows (unused_object n) (opening s) p d

-- the first of the two visits of a step tells its unused keys
abbrev pub unused_by : Part → Path → Data → List Path
unused_by Opening p d = unused_object NESTED (schema_of d) p d
unused_by Closing p d = []

-- the unused keys of the visited step
abbrev pub unused_spot : Spot → List Path
unused_spot x = unused_by x.part x.path x.step

-- a pipeline with its resources and jobs, and the steps of the jobs
unfoldable pub unused_in : Data → List Path
unused_in d = unused_object NESTED schema.Pipeline [] d ++ flat_map unused_spot (all_steps d)

-- sorted has the texts of paths and no others, ascending by bytes, each once
pub record IsSortedOnce (paths sorted : List Path) : Type 0 where
  pub ascending : IsStrictlySortedBy (slice_cmp nat_cmp) sorted
  pub only : (p : Path) → Contains sorted p → Contains paths p
  pub all : (p : Path) → Contains paths p → Contains sorted p
