-- A pipeline without its keys that have no effect; the timeouts of its gets, puts and tasks stay, or go with them.
use Rattle.std.specs.Prelude.{List, [], ◌∷◌, ◌++◌, ℕ, map, Bool, true, false, Option, Some, None, codes, if◌then◌else◌}
use Rattle.std.specs.Str.{bytes_eq}
use Rattle.serde_json.specs.Data.{Data, array, object, Items, no_items, item, Members, no_members, member}
use Rattle.ccr_pipeline.specs.declared.schema.Kind.{Kind}
use Rattle.ccr_pipeline.specs.declared.schema.Kind.TheVariants as kind
use Rattle.ccr_pipeline.specs.declared.schema.Need.TheVariants.{May}
use Rattle.ccr_pipeline.specs.declared.schema.Schema.{Schema}
use Rattle.ccr_pipeline.specs.declared.schema.Schema.TheVariants as schema
use Rattle.ccr_pipeline.specs.Keys.{or_else}
use Rattle.ccr_pipeline.specs.Schema.{Row, opening, closing, schema_of}

-- the keys that break a rule in a step of another kind: those that say a kind, and those that aren't done here
abbrev pub kept_of_steps : List Row
kept_of_steps =
    map (λ k. (May, kind.Any, k)) (codes "get" ∷ codes "put" ∷ codes "task" ∷ [])
    ++ (opening schema.Holder ++ opening schema.Undone)

-- those, and where timeouts stay, the timeout, which a launcher is told
abbrev pub kept_of_starting : Bool → List Row
kept_of_starting timed = kept_of_steps ++ (if timed then (May, kind.Any, codes "timeout") ∷ [] else [])

-- the keys that stay in objects of a schema, though these can't have them; where timeouts stay, steps that start
-- programs keep theirs
abbrev pub kept : Bool → Schema → List Row
kept timed schema.Get = kept_of_starting timed
kept timed schema.Put = kept_of_starting timed
kept timed schema.Task = kept_of_starting timed
kept timed schema.FileTask = kept_of_starting timed
kept timed schema.Holder = kept_of_steps
kept timed _ = []

-- what stands at a key, by the first of the rows that has it
abbrev pub kind_in : List Row → List ℕ → Option Kind
kind_in [] k = None
kind_in (r ∷ rs) k = if bytes_eq r.2 k then Some r.1 else kind_in rs k

-- what stands at a key of the objects of a schema
unfoldable pub kind_at : Bool → Schema → List ℕ → Option Kind
kind_at timed s k = kind_in (opening s ++ (closing s ++ kept timed s)) k

abbrev mutual
  -- a value of a kind without its unused keys
  pub used : Bool → Kind → Data → Data
  used timed (kind.Object s) (object ms) = object (used_members timed s ms)
  used timed (kind.Objects s) (array ds) = array (used_items timed (kind.Object s) ds)
  used timed kind.Steps (array ds) = array (used_items timed kind.Step ds)
  used timed kind.Parallel (array ds) = array (used_items timed kind.Step ds)
  used timed kind.Parallel (object ms) = object (used_members timed schema.Parallel ms)
  used timed kind.Step (object ms) = object (used_members timed (schema_of (object ms)) ms)
  used timed _ d = d

  -- an object's members at the keys that it can have and at those that stay
  pub used_members : Bool → Schema → Members → Members
  used_members timed s no_members = no_members
  used_members timed s (member k d ms) =
      or_else (kind_at timed s k) (used_members timed s ms)
      (λ found. member k (used timed found d) (used_members timed s ms))

  -- the members of a list
  pub used_items : Bool → Kind → Items → Items
  used_items timed k no_items = no_items
  used_items timed k (item d ds) = item (used timed k d) (used_items timed k ds)

-- a pipeline without its unused keys, but for the timeouts of its gets, puts and tasks
abbrev pub used_pipeline : Data → Data
used_pipeline d = used true (kind.Object schema.Pipeline) d

-- a pipeline without its unused keys, these timeouts among them
abbrev pub bare_pipeline : Data → Data
bare_pipeline d = used false (kind.Object schema.Pipeline) d
