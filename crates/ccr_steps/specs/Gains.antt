-- What a build gains as it goes on: artifacts under their names, and versions that it moved.
use Rattle.std.specs.Prelude.{◌≡◌, Bool, ◌&&◌, ◌||◌, ◌++◌, List, [], ◌∷◌, map, string_bytes, if◌then◌else◌}
use Rattle.std.specs.List.{list_any, list_all}
use Rattle.std.specs.Str.{bytes_eq}
use Rattle.ccr_history.specs.TextMap.{TextMap, key_text}
use Rattle.ccr_pipeline.specs.Names.{has_name, with_name, with_names}
use Rattle.ccr_pipeline.specs.Tree.{Text}
use Rattle.ccr_steps.specs.declared.moved.Moved.{Moved}
use Rattle.ccr_steps.specs.declared.gains.Gains.{Gains}

-- a version of a resource that the build moved
pub record MovedData : Type 0 where
  pub resource : Text
  pub version : TextMap

-- a moved version, without where its parts lie in memory
abbrev pub moved_data : Moved → MovedData
moved_data m = record { resource = string_bytes m.resource; version = m.version }

-- two are the same if the resource is, and the version's key
abbrev pub is_same : MovedData → Text → Text → Bool
is_same m resource key = bytes_eq m.resource resource && bytes_eq (key_text m.version) key

-- one of the moved versions is of this resource and has this key
abbrev pub has_moved : List MovedData → Text → Text → Bool
has_moved ms resource key = list_any (λ m. is_same m resource key) ms

-- the moved versions with one that they lack at their end
abbrev pub with_moved : List MovedData → MovedData → List MovedData
with_moved ms m = if has_moved ms m.resource (key_text m.version) then ms else ms ++ m ∷ []

-- the names of the registered artifacts, and the moved versions, each once in order of coming
pub record GainsData : Type 0 where
  pub names : List Text
  pub moved : List MovedData

-- a build begins with no artifact and no moved version
abbrev pub no_gains : GainsData
no_gains = record { names = []; moved = [] }

-- with an artifact registered
abbrev pub register : Text → GainsData → GainsData
register name g = record { names = with_name g.names name; moved = g.moved }

-- with the artifacts of a list registered
abbrev pub register_all : List Text → GainsData → GainsData
register_all names g = record { names = with_names g.names names; moved = g.moved }

-- with a version moved
abbrev pub move : Text → TextMap → GainsData → GainsData
move resource version g =
    record { names = g.names; moved = with_moved g.moved (record { resource = resource; version = version }) }

-- as it is
abbrev pub same : GainsData → GainsData
same g = g

-- an input that isn't optional is registered
abbrev pub has_input : GainsData → Text × Bool → Bool
has_input g i = i.1 || has_name g.names i.0

-- each input that isn't optional is registered
abbrev pub has_inputs : List (Text × Bool) → GainsData → Bool
has_inputs inputs g = list_all (has_input g) inputs

-- more came at the ends
abbrev pub Grew : GainsData → GainsData → Type 0
Grew old new =
    (names : List Text) × (moved : List MovedData)
    × (new.names ≡ old.names ++ names) × (new.moved ≡ old.moved ++ moved)

-- what a build gained, without where it lies in memory
abbrev pub gains_data : Gains → GainsData
gains_data g = record { names = g.names; moved = map moved_data g.moved.items }
