-- Keys of JSON objects, and paths.
use Rattle.std.specs.Prelude.{ℕ, List, [], ◌∷◌, ◌++◌, Option, Some, None, option_and_then, is_some, if◌then◌else◌, decimal}
use Rattle.serde_json.specs.Data.{Data, Items, no_items}
use Rattle.serde_json.specs.Find.{as_null, as_array, get}
use Rattle.ccr_pipeline.specs.declared.place.Place.{Place}
use Rattle.ccr_pipeline.specs.declared.place.Place.TheOpen.{Place-F}
use Rattle.ccr_pipeline.specs.declared.place.Place.TheFolds.{fold-Place}
use Rattle.ccr_pipeline.specs.Faults.{Path}
use Rattle.serde_json.specs.View.{view}
use Rattle.ccr_pipeline.specs.declared.cursor.Cursor.{Cursor}

-- the value, unless it is null
abbrev pub unless_null : Data → Option Data
unless_null d = if is_some (as_null d) then None else Some d

-- what stands at a key; null is as absent
abbrev pub at_key : List ℕ → Data → Option Data
at_key k d = option_and_then unless_null (get k d)

-- the value of one case or the other
abbrev pub or_else : {A B : Type 0} → Option A → B → (A → B) → B
or_else None b f = b
or_else (Some a) b f = f a

-- the members of a list; there are none where no list is
abbrev pub items_in : Data → Items
items_in d = or_else (as_array d) no_items (λ ds. ds)

-- those of the list at a key
abbrev pub list_at : List ℕ → Data → Items
list_at k d = or_else (at_key k d) no_items items_in

-- the path of a key of the object at a path: joined by a point, at the whole pipeline the key alone
abbrev pub path_below : Path → List ℕ → Path
path_below [] k = k
path_below (c ∷ p) k = (c ∷ p) ++ 46 ∷ k

-- the path of a member of the list at a path: its position in brackets
abbrev pub path_at : Path → ℕ → Path
path_at p i = p ++ 91 ∷ (decimal i ++ 93 ∷ [])

-- the path of a place, those above it having theirs
abbrev pub path_step : Place-F Path → Path
path_step (Place-F.Top p) = p.now
path_step (Place-F.Key above k) = path_below above.now k.now
path_step (Place-F.Member above i) = path_at above.now i

-- the path of a place
unfoldable pub path_of : Place → Path
path_of = fold-Place Path path_step

-- the value that a cursor is at
abbrev pub data_of : Cursor → Data
data_of c = view c.value.now

-- the path of its place
abbrev pub path_to : Cursor → Path
path_to c = path_of c.place

-- a word of a path and a value, of those of a cursor
abbrev pub here : {A : Type 0} → (Path → Data → A) → Cursor → A
here f c = f (path_of c.place) (view c.value.now)
