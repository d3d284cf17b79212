-- What stands at a path of a pipeline's value, and what is wanted there.
use Rattle.std.specs.Prelude.{nat_eq, ℕ, ◌+◌, List, [], ◌∷◌, length, Bool, true, ◌&&◌, ◌||◌, ◌==◌, Option, Some, None, option_map, codes, if◌then◌else◌}
use Rattle.std.specs.List.{starts_with, slice_get}
use Rattle.std.specs.Option.{option_or}
use Rattle.std.specs.Str.{bytes_eq}
use Rattle.serde_json.specs.Data.{Data, null, boolean, number, string, array, object, Items, no_items, item, Members, no_members, member}
use Rattle.serde_json.specs.View.{view}
use Rattle.ccr_pipeline.specs.declared.schema.Kind.{Kind}
use Rattle.ccr_pipeline.specs.declared.schema.Kind.TheVariants as kind
use Rattle.ccr_pipeline.specs.declared.schema.Schema.TheVariants as schema
use Rattle.ccr_pipeline.specs.Faults.{Path}
use Rattle.ccr_pipeline.specs.Keys.{or_else, path_below, path_at}
use Rattle.ccr_pipeline.specs.Schema.{Row, opening, closing, schema_of}
use Rattle.ccr_findings.specs.declared.stand.Keys.{Keys}
use Rattle.ccr_findings.specs.declared.stand.Keys.TheVariants.{Of, Fields, Unknown}
use Rattle.ccr_findings.specs.declared.stand.Side.{Side}
use Rattle.ccr_findings.specs.declared.stand.Side.TheVariants.{There, Inside, Elsewhere}
use Rattle.ccr_findings.specs.declared.stand.Stand.{Stand}

-- what comes behind a path in that of another place: nothing, or a key or a position in it
abbrev pub goes_on : Option ℕ → Bool
goes_on None = true
goes_on (Some c) = c == 46 || c == 91

-- the second path is the first one, or that of a place in it
abbrev pub is_within : Path → Path → Bool
is_within p q = starts_with nat_eq q p && goes_on (slice_get q (length p))

-- the keys of a value of which this kind is wanted
abbrev pub keys_of : Kind → Data → Keys
keys_of (kind.Object s) d = Of s
keys_of kind.Parallel d = Of schema.Parallel
keys_of kind.Step d = Of (schema_of d)
keys_of kind.Fields d = Fields
keys_of kind.Wanted d = Fields
keys_of k d = Unknown

-- what is wanted at a key by the rows of a table
abbrev pub kind_in : List Row → List ℕ → Option Kind
kind_in [] k = None
kind_in (r ∷ rs) k = if bytes_eq r.2 k then Some r.1 else kind_in rs k

-- what is wanted at one of these keys, if it is one of them
abbrev pub kind_at : Keys → List ℕ → Option Kind
kind_at (Of s) k = option_or (kind_in (opening s) k) (kind_in (closing s) k)
kind_at Fields k = Some kind.Text
kind_at Unknown k = None

-- what is wanted of the members of a list of which this kind is wanted
abbrev pub kind_of_items : Kind → Option Kind
kind_of_items (kind.Objects s) = Some (kind.Object s)
kind_of_items kind.Steps = Some kind.Step
kind_of_items kind.Parallel = Some kind.Step
kind_of_items kind.Texts = Some kind.Text
kind_of_items k = None

-- a place: what is wanted there, and what stands there, if anything does
pub record StandData : Type 0 where
  pub kind : Kind
  pub value : Option Data

-- a place, made of its parts
abbrev pub stand : Kind → Option Data → StandData
stand k value = record { kind = k; value = value }

-- a place, without where its value lies in memory
abbrev pub stand_data : Stand → StandData
stand_data s = stand s.kind (option_map (λ v. view v.now) s.value)

-- what is wanted at the path q, that of a key of an object at p, by the rows of its table
abbrev pub absent_in : Path → Path → List Row → Option Kind
absent_in q p [] = None
absent_in q p (r ∷ rs) = if bytes_eq (path_below p r.2) q then Some r.1 else absent_in q p rs

-- the same by the object's keys
abbrev pub absent_kind : Path → Path → Keys → Option Kind
absent_kind q p (Of s) = option_or (absent_in q p (opening s)) (absent_in q p (closing s))
absent_kind q p Fields = None
absent_kind q p Unknown = None

-- a key that isn't there
abbrev pub absent_stand : Path → Path → Keys → Option StandData
absent_stand q p ks = option_map (λ k. stand k None) (absent_kind q p ks)

-- where the path q is, from the path p: there, in it, or elsewhere
abbrev pub side_of : Path → Path → Side
side_of q p = if bytes_eq p q then There else (if is_within p q then Inside else Elsewhere)

-- the place is this one, or one in it, or none
abbrev pub stand_here : Side → Kind → Data → Option StandData → Option StandData
stand_here There k d inside = Some (stand k (Some d))
stand_here Inside k d inside = inside
stand_here Elsewhere k d inside = None

abbrev mutual
  -- the place at the path q in a value at p of which the kind k is wanted
  pub stand_in : Path → Kind → Path → Data → Option StandData
  stand_in q k p null = None
  stand_in q k p (boolean b) = None
  stand_in q k p (number n) = None
  stand_in q k p (string s) = None
  stand_in q k p (array ds) = or_else (kind_of_items k) None (λ w. stand_in_items q w p 0 ds)
  stand_in q k p (object ms) =
      option_or (stand_in_members q (keys_of k (object ms)) p ms) (absent_stand q p (keys_of k (object ms)))

  -- that in the members of a list at p, from position i on
  pub stand_in_items : Path → Kind → Path → ℕ → Items → Option StandData
  stand_in_items q k p i no_items = None
  stand_in_items q k p i (item d ds) =
      option_or (stand_here (side_of q (path_at p i)) k d (stand_in q k (path_at p i) d))
      (stand_in_items q k p (i + 1) ds)

  -- that in the members of an object at p that has these keys
  pub stand_in_members : Path → Keys → Path → Members → Option StandData
  stand_in_members q ks p no_members = None
  stand_in_members q ks p (member key d ms) =
      option_or (or_else (kind_at ks key) None (λ w. stand_here (side_of q (path_below p key)) w d
      (stand_in q w (path_below p key) d))) (stand_in_members q ks p ms)

-- THE PLACE AT A PATH of a pipeline's value, which is called pipeline itself
abbrev pub stand_on : Data → Path → Option StandData
stand_on d q = if bytes_eq q (codes "pipeline") then Some (stand (kind.Object schema.Pipeline) (Some d)) else
    stand_in q (kind.Object schema.Pipeline) [] d
